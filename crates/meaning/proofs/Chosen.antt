-- Which edges a choice has, and which are left without an edge and its later twins.
use Rattle.std.proofs.Common.{◌≡◌, ℕ, zero, suc, ◌+◌, ◌<◌, Bool, true, false, cond, not, ◌&&◌, leb, List, [], ◌∷◌, ◌++◌, length, sym, refl, ap, ◌∙◌, inl, inr, add-zero, zero-add, arith}
use Rattle.std.proofs.lemmas.Bool.{cond_both}
use Rattle.records.specs.declared.tables.Edge.{Edge}
use Rattle.waits.specs.Events.{In, place, chosen_from, chosen}
use Rattle.waits.proofs.Paths.{in-++}
use Rattle.planning.specs.Edges.{twins, without}

pub in_left : (e : Edge) (es fs : List Edge) → In e es → In e (es ++ fs)
in_left e (f ∷ es) fs (inl q) = inl q
in_left e (f ∷ es) fs (inr h) = inr (in_left e es fs h)
in_left e [] fs h = absurd h

pub in_right : (e : Edge) (es fs : List Edge) → In e fs → In e (es ++ fs)
in_right e [] fs h = h
in_right e (f ∷ es) fs h = inr (in_right e es fs h)

-- es and fs, with gs for fs, where gs has the edges of fs
pub in_more : (es fs gs : List Edge) → ((e : Edge) → In e fs → In e gs) → (e : Edge) → In e (es ++ fs) → In e (es ++ gs)
in_more es fs gs more e h = elim (in-++ e es fs h) [ inl l ↦ in_left e es gs l | inr r ↦ in_right e es gs (more e r) ]

pub in_place : (es : List Edge) (i : ℕ) → i < length es → In (place es i) es
in_place [] i l = absurd (omega arith)
in_place (e ∷ es) zero l = inl refl
in_place (e ∷ es) (suc i) l = inr (in_place es i (omega arith))

-- the edges that pass a test of their number, counted from k on, and of themselves
kept : (ℕ → Edge → Bool) → ℕ → List Edge → List Edge
kept p k [] = []
kept p k (e ∷ es) = cond (p k e) (e ∷ kept p (k + 1) es) (kept p (k + 1) es)

-- a place, counted from 0, whose edge is e and passes the test
abbrev Place : (ℕ → Edge → Bool) → ℕ → List Edge → Edge → Type 0
Place p k es e = (i : ℕ) × (i < length es) × (p (k + i) e ≡ true) × (place es i ≡ e)

in_kept : (p : ℕ → Edge → Bool) (k : ℕ) (es : List Edge) (e : Edge) → In e (kept p k es) → Place p k es e
unfolding kept
in_kept p k [] e h = absurd h
in_kept p k (f ∷ es) e h =
    let next : In e (kept p (k + 1) es) → Place p k (f ∷ es) e = λ r. let (i, l, t, q) = in_kept p (k + 1) es e r in (suc i, omega arith, ap (λ m. p m e) (omega arith) ∙ t, q) in
    cond_both (p k f) (f ∷ kept p (k + 1) es) (kept p (k + 1) es) (λ fs. In e fs → Place p k (f ∷ es) e)
    (λ t r. elim r [ inl q ↦ (0, omega arith, ap (λ m. p m e) (add-zero k) ∙ ap (p k) q ∙ t, sym q) | inr r' ↦ next r' ])
    (λ t r. next r)
    h

kept_in : (p : ℕ → Edge → Bool) (k : ℕ) (es : List Edge) (e : Edge) → Place p k es e → In e (kept p k es)
unfolding kept
kept_in p k [] e (i, l, t, q) = absurd (omega arith)
kept_in p k (f ∷ es) e (zero, l, t, q) = rw (ap (p k) q ∙ ap (λ m. p m e) (sym (add-zero k)) ∙ t) (inl (sym q))
kept_in p k (f ∷ es) e (suc i, l, t, q) =
    let h = kept_in p (k + 1) es e (i, omega arith, ap (λ m. p m e) (omega arith) ∙ t, q) in
    cond_both (p k f) (f ∷ kept p (k + 1) es) (kept p (k + 1) es) (λ fs. In e fs) (λ _. inr h) (λ _. h)

chosen_kept : (C : ℕ → Bool) (k : ℕ) (es : List Edge) → chosen_from C k es ≡ kept (λ i _. C i) k es
unfolding kept
chosen_kept C k [] = refl
chosen_kept C k (e ∷ es) = rw (chosen_kept C (k + 1) es)

-- whether without i e leaves in the edge f with number j
abbrev pub stays : ℕ → Edge → ℕ → Edge → Bool
stays i e j f = not (leb i j && twins e f)

without_kept : (i : ℕ) (e : Edge) (k : ℕ) (es : List Edge) → without i e k es ≡ kept (stays i e) k es
unfolding kept
without_kept i e k [] = refl
without_kept i e k (f ∷ es) = rw (without_kept i e (k + 1) es) (cond_not (leb i k && twins e f) (kept (stays i e) (k + 1) es) (f ∷ kept (stays i e) (k + 1) es))
  where
    cond_not : (b : Bool) (xs ys : List Edge) → cond b xs ys ≡ cond (not b) ys xs
    cond_not true xs ys = refl
    cond_not false xs ys = refl

module _ (C : ℕ → Bool) (es : List Edge) where
  pub in_chosen : (e : Edge) → In e (chosen C es) → (i : ℕ) × (i < length es) × (C i ≡ true) × (place es i ≡ e)
  in_chosen e h = let (i, l, t, q) = in_kept (λ i _. C i) 0 es e (rw (chosen_kept C 0 es) at h) in (i, l, rw (zero-add i) at t, q)

  pub chosen_part : (e : Edge) → In e (chosen C es) → In e es
  chosen_part e h = let (i, l, t, q) = in_chosen e h in rw q at (in_place es i l)

  pub chosen_in : (i : ℕ) → i < length es → C i ≡ true → In (place es i) (chosen C es)
  chosen_in i l t = rw (chosen_kept C 0 es) (kept_in (λ i _. C i) 0 es (place es i) (i, l, rw (zero-add i) t, refl))

module _ (i : ℕ) (e : Edge) (es : List Edge) where
  pub in_without : (f : Edge) → In f (without i e 0 es) → (j : ℕ) × (j < length es) × (stays i e j f ≡ true) × (place es j ≡ f)
  in_without f h = let (j, l, t, q) = in_kept (stays i e) 0 es f (rw (without_kept i e 0 es) at h) in (j, l, rw (zero-add j) at t, q)

  pub without_part : (f : Edge) → In f (without i e 0 es) → In f es
  without_part f h = let (j, l, t, q) = in_without f h in rw q at (in_place es j l)

  pub without_in : (j : ℕ) → j < length es → stays i e j (place es j) ≡ true → In (place es j) (without i e 0 es)
  without_in j l t = rw (without_kept i e 0 es) (kept_in (stays i e) 0 es (place es j) (j, l, rw (zero-add j) t, refl))
