-- Redundant links may be left out all at once.
use Rattle.std.proofs.Common.{◌≡◌, ℕ, zero, suc, ◌+◌, ◌<◌, ◌≤◌, Bool, true, ◌⊎◌, List, ◌++◌, length, sym, refl, subst, inl, inr, arith}
use Rattle.records.specs.declared.tables.Edge.{Edge}
use Rattle.records.specs.Tables.{edge}
use Rattle.waits.specs.Events.{In, Within, Live, Path, last, step, place, chosen}
use Rattle.waits.proofs.Paths.{in-++}
use Rattle.waits.proofs.Paths.{path_joined, path_over_more}
use Rattle.planning.specs.Edges.{without}
use Rattle.meaning.proofs.Covers.{Covers, covers_more, covers_own, covers_then}
use Rattle.meaning.proofs.Chosen.{in_left, in_right, in_more, in_place, chosen_in, in_without, without_part}
use Rattle.meaning.proofs.Twins.{twin_is_lower}
use Rattle.meaning.proofs.Weights.{Way, weight, weight_falls}

way_then : (es : List Edge) (u w v c d : ℕ) → Way es u w c → In (edge w v d) es → Path es u v (c + d)
way_then es u w v c d (inl (e, z)) h = subst (λ x. Path es x v (c + d)) (sym e) (subst (λ t. Path es w v t) (omega arith) (last h))
way_then es u w v c d (inr p) h = path_joined p (last h)

-- link i is chosen by K, or covered by O, or covered once it and its later twins are gone
abbrev pub Spared : List Edge → List Edge → (ℕ → Bool) → ℕ → Type 0
Spared O L K i = (K i ≡ true) ⊎ (Covers O (place L i) ⊎ Covers (O ++ without i (place L i) 0 L) (place L i))

module _ (n : ℕ) (O L : List Edge) (few : n ≤ 64) (short : length L ≤ 271) (within : Within n (O ++ L)) (live : Live (O ++ L)) (K : ℕ → Bool) where
  abbrev heavy : ℕ → ℕ
  heavy i = weight n (O ++ L) within live (place L i) i

  abbrev Kept : Edge → Type 0
  Kept e = Covers (O ++ chosen K L) e

  -- link i, where all lighter links are covered
  module _ (i : ℕ) (hi : i < length L) (lighter : (j : ℕ) → j < length L → heavy j < heavy i → Kept (place L j)) where
    abbrev this : Edge
    this = place L i

    abbrev others : List Edge
    others = O ++ without i this 0 L

    part : (f : Edge) → In f others → In f (O ++ L)
    part = in_more O (without i this 0 L) L (without_part i this L)

    -- an edge of a path of at most the delay of link i, with what is before it and what is after it
    one : (f : Edge) → In f others → (c t : ℕ) → Way (O ++ L) this.sender f.sender c → Way (O ++ L) f.receiver this.receiver t
        → c + f.delay + t ≤ this.delay → Kept f
    one f h c t before after total = elim (in-++ f O (without i this 0 L) h) [
      | inl o ↦ covers_own (O ++ chosen K L) f (in_left f O (chosen K L) o)
      | inr r ↦
          let (j, l, s, q) = in_without i this L f r in
          let falls = weight_falls n (O ++ L) within live few this f i j (in_right this O L (in_place L i hi)) (part f h) (omega arith) (twin_is_lower i this j f s) c t before after total in
          subst Kept q (lighter j l (subst (λ x. weight n (O ++ L) within live x j < heavy i) (sym q) falls))
    ]

    along : {a t : ℕ} (c : ℕ) → Way (O ++ L) this.sender a c → Path others a this.receiver t → c + t ≤ this.delay → Kept (edge a this.receiver t)
    along {a} {t} c before (last h) total = one (edge a this.receiver t) h c 0 before (inl (refl, refl)) (omega arith)
    along {a} c before (step {w = w} {t = t} d h p) total =
        covers_then (O ++ chosen K L) a w this.receiver d t
        (one (edge a w d) h c t before (inr (path_over_more part p)) (omega arith))
        (along (c + d) (inr (way_then (O ++ L) this.sender a w c d before (part (edge a w d) h))) p (omega arith))

  module _ (each : (i : ℕ) → i < length L → Spared O L K i) where
    by_weight : (m i : ℕ) → i < length L → heavy i < m → Kept (place L i)
    by_weight zero i hi low = absurd (omega arith)
    by_weight (suc m) i hi low = elim (each i hi) [
      | inl k ↦ covers_own (O ++ chosen K L) (place L i) (in_right (place L i) O (chosen K L) (chosen_in K L i hi k))
      | inr (inl o) ↦ covers_more O (O ++ chosen K L) (place L i) (λ f h. in_left f O (chosen K L) h) o
      | inr (inr (t, l, p)) ↦
          let (s, b, q) = along i hi (λ j hj f. by_weight m j hj (omega arith)) 0 (inl (refl, refl)) p (omega arith) in
          (s, omega arith, q)
    ]

    -- the links that K does not choose may be left out all at once
    pub dropped_at_once : (i : ℕ) → i < length L → Covers (O ++ chosen K L) (place L i)
    dropped_at_once i hi = by_weight (suc (heavy i)) i hi (omega arith)
