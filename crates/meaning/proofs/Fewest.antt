-- No choice of links that covers the links that are not redundant has fewer of them.
use Rattle.std.proofs.Common.{◌≡◌, ℕ, zero, suc, ◌<◌, ◌≤◌, Bool, true, cond, ◌⊎◌, List, [], ◌∷◌, ◌++◌, length, sym, refl, ap, ◌∙◌, subst, inl, inr, arith}
use Rattle.std.proofs.lemmas.Bool.{cases_Bool, cond-true, cond-false}
use Rattle.records.specs.declared.tables.Edge.{Edge}
use Rattle.records.specs.Tables.{edge}
use Rattle.waits.specs.Counting.{count}
use Rattle.waits.specs.Events.{In, Path, last, step, place, chosen}
use Rattle.waits.proofs.Paths.{in-++}
use Rattle.waits.proofs.Counting.{counting}
use Rattle.planning.specs.Edges.{twins, without}
use Rattle.meaning.proofs.Chosen.{stays, in_left, in_right, in_chosen, without_in}
use Rattle.meaning.proofs.Twins.{twins_same, same_twins, lower_stays, gone_is_twin}
use Rattle.meaning.proofs.Covers.{Covers, covers_own}

-- the lowest number of a twin of e, or the length if there is none
first_twin : Edge → List Edge → ℕ
first_twin e [] = 0
first_twin e (f ∷ es) = cond (twins e f) 0 (suc (first_twin e es))

first_twin_is : (e : Edge) (es : List Edge) (i : ℕ) → i < length es → e ≡ place es i → ((j : ℕ) → j < i → e ≡ place es j → ⊥) → first_twin e es ≡ i
unfolding first_twin
first_twin_is e [] i l q low = absurd (omega arith)
first_twin_is e (f ∷ es) zero l q low = cond-true (twins e f) 0 (suc (first_twin e es)) (same_twins e f q)
first_twin_is e (f ∷ es) (suc i) l q low = elim (cases_Bool (twins e f)) [
  | inl t ↦ absurd (low 0 (omega arith) (twins_same e f t))
  | inr t ↦ cond-false (twins e f) 0 (suc (first_twin e es)) t ∙ ap suc (first_twin_is e es i (omega arith) q (λ j h. low (suc j) (omega arith)))
]

module _ (O L : List Edge) where
  -- link i is not redundant: without it and its later twins it is not covered
  abbrev pub Needed : ℕ → Type 0
  Needed i = Covers (O ++ without i (place L i) 0 L) (place L i) → ⊥

  needed_first : (i : ℕ) → i < length L → Needed i → first_twin (place L i) L ≡ i
  needed_first i hi need = first_twin_is (place L i) L i hi refl (λ j l q.
      let h = without_in i (place L i) L j (omega arith) (lower_stays i (place L i) j (place L j) l) in
      need (subst (λ e. Covers (O ++ without i (place L i) 0 L) e) (sym q) (covers_own (O ++ without i (place L i) 0 L) (place L j) (in_right (place L j) O (without i (place L i) 0 L) h))))

  module _ (C : ℕ → Bool) (i : ℕ) where
    abbrev others : List Edge
    others = O ++ without i (place L i) 0 L

    -- a chosen twin of link i
    abbrev Twin : Type 0
    Twin = (j : ℕ) × (j < length L) × (C j ≡ true) × (place L i ≡ place L j)

    twin_or_other : (f : Edge) → In f (O ++ chosen C L) → Twin ⊎ In f others
    twin_or_other f h = elim (in-++ f O (chosen C L) h) [
      | inl o ↦ inr (in_left f O (without i (place L i) 0 L) o)
      | inr r ↦
          let (j, l, c, q) = in_chosen C L f r in
          elim (cases_Bool (stays i (place L i) j (place L j))) [
            | inl t ↦ inr (in_right f O (without i (place L i) 0 L) (subst (λ e. In e (without i (place L i) 0 L)) q (without_in i (place L i) L j l t)))
            | inr t ↦ inl (j, l, c, gone_is_twin i (place L i) j (place L j) t)
          ]
    ]

    twin_or_path : {u v t : ℕ} → Path (O ++ chosen C L) u v t → Twin ⊎ Path others u v t
    twin_or_path (last {u} {v} {d} h) = elim (twin_or_other (edge u v d) h) [ inl t ↦ inl t | inr o ↦ inr (last o) ]
    twin_or_path (step {u} {w} d h p) = elim (twin_or_other (edge u w d) h) [
      | inl t ↦ inl t
      | inr o ↦ elim (twin_or_path p) [ inl t ↦ inl t | inr q ↦ inr (step d o q) ]
    ]

    needed_twin : Needed i → Covers (O ++ chosen C L) (place L i) → Twin
    needed_twin need (t, l, p) = elim (twin_or_path p) [ inl r ↦ r | inr q ↦ absurd (need (t, l, q)) ]

  pub fewest : (K C : ℕ → Bool) → ((i : ℕ) → i < length L → K i ≡ true → Needed i) → ((i : ℕ) → i < length L → K i ≡ true → Covers (O ++ chosen C L) (place L i))
      → count K (length L) ≤ count C (length L)
  fewest K C need covered = counting K C (λ j. first_twin (place L j) L) (length L) (length L) (λ i hi k.
      let (j, l, c, q) = needed_twin C i (need i hi k) (covered i hi k) in
      (j, l, c, ap (λ e. first_twin e L) (sym q) ∙ needed_first i hi (need i hi k)))
