-- Lawful lists and obeyed edges, told by the counts after every prefix.
use Rattle.std.proofs.Common.{◌≡◌, ℕ, zero, suc, ◌+◌, ◌≤◌, Bool, true, false, cond, eqb, List, [], ◌∷◌, ◌++◌, length, take, sym, refl, ap, subst, inl, inr, arith, length-append, take_all}
use lib.Seq.{take-append-add, take-append-le, take-length}
use Rattle.std.proofs.lemmas.Bool.{cases_Bool, cases_lt, eqb-true, eq-eqb}
use Rattle.records.specs.declared.tables.Edge.{Edge}
use Rattle.waits.specs.Events.{Event, start, finish, starts, finishes, Alternates, Lawful, Obeys}
use Rattle.waits.proofs.Counts.{starts-++, finishes-++}

-- a has finished as often as it has started, or once less
abbrev pub LawfulNow : ℕ → List Event → Type 0
LawfulNow a ys = (finishes a ys ≤ starts a ys) × (starts a ys ≤ finishes a ys + 1)

-- the receiver has started at most the delay more often than the sender has finished
abbrev pub ObeysNow : Edge → List Event → Type 0
ObeysNow e ys = starts e.receiver ys ≤ finishes e.sender ys + e.delay

-- P holds after every prefix
abbrev pub Throughout : (List Event → Type 0) → List Event → Type 0
Throughout P xs = (k : ℕ) → P (take k xs)

pub at_end : (P : List Event → Type 0) (xs : List Event) → Throughout P xs → P xs
at_end P xs h = rw take-length at (h (length xs))

pub one_more : (P : List Event → Type 0) (xs : List Event) (x : Event) → Throughout P xs → P (xs ++ (x ∷ [])) → Throughout P (xs ++ (x ∷ []))
one_more P xs x h new k = elim (cases_lt (length xs) k) [
  | inl l ↦ subst P (sym (take_all k (xs ++ (x ∷ [])) (simp length-append (omega arith)))) new
  | inr l ↦ subst P (sym (take-append-le k xs (x ∷ []) l)) (h k)
]

-- `Lawful-now` throughout, where a may be running at first
abbrev Balanced : ℕ → Bool → List Event → Type 0
Balanced a running xs = (k : ℕ)
    → (finishes a (take k xs) ≤ cond running 1 0 + starts a (take k xs)) × (cond running 1 0 + starts a (take k xs) ≤ finishes a (take k xs) + 1)

alternates_balanced : (a : ℕ) (r : Bool) (xs : List Event) → Alternates a r xs → Balanced a r xs
alternates_balanced a r xs h zero = grind arith
alternates_balanced a r [] h (suc k) = grind arith
alternates_balanced a r (start b ∷ xs) h (suc k) = elim (cases_Bool (eqb a b)) [
  | inl e ↦ let t = rw e at h in let i = alternates_balanced a true xs t.1 k in simp (e, t.0) (omega arith)
  | inr e ↦ let i = alternates_balanced a r xs (rw e at h) k in simp e (omega arith)
]
alternates_balanced a r (finish b ∷ xs) h (suc k) = elim (cases_Bool (eqb a b)) [
  | inl e ↦ let t = rw e at h in let i = alternates_balanced a false xs t.1 k in simp (e, t.0) (omega arith)
  | inr e ↦ let i = alternates_balanced a r xs (rw e at h) k in simp e (omega arith)
]

balanced_alternates : (a : ℕ) (r : Bool) (xs : List Event) → Balanced a r xs → Alternates a r xs
balanced_alternates a r [] h = tt
balanced_alternates a r (start b ∷ xs) h = elim (cases_Bool (eqb a b)) [
  | inl e ↦ elim (cases_Bool r) [
    | inl t ↦ let j = simp (e, t) at (h 1) in let z : ⊥ = omega arith in absurd z
    | inr f ↦ rw e (f, balanced_alternates a true xs (λ k. let j = simp (e, f) at (h (suc k)) in omega arith))
  ]
  | inr e ↦ rw e (balanced_alternates a r xs (λ k. let j = simp e at (h (suc k)) in omega arith))
]
balanced_alternates a r (finish b ∷ xs) h = elim (cases_Bool (eqb a b)) [
  | inl e ↦ elim (cases_Bool r) [
    | inl t ↦ rw e (t, balanced_alternates a false xs (λ k. let j = simp (e, t) at (h (suc k)) in omega arith))
    | inr f ↦ let j = simp (e, f) at (h 1) in let z : ⊥ = omega arith in absurd z
  ]
  | inr e ↦ rw e (balanced_alternates a r xs (λ k. let j = simp e at (h (suc k)) in omega arith))
]

-- in a lawful list each actor has, after every prefix, finished as often as it has started, or once less
pub lawful_counts : (xs : List Event) → Lawful xs → (a : ℕ) → Throughout (LawfulNow a) xs
lawful_counts xs l a k = omega (arith, alternates_balanced a false xs (l a) k)

-- a list in which each actor has, after every prefix, finished as often as it has started, or once less, is lawful
pub counts_lawful : (xs : List Event) → ((a : ℕ) → Throughout (LawfulNow a) xs) → Lawful xs
counts_lawful xs c a = balanced_alternates a false xs (λ k. omega (arith, c a k))

-- where an edge is obeyed, its receiver starts, in every prefix, at most the delay more often than its sender finishes
pub obeys_counts : (xs : List Event) (e : Edge) → Obeys xs e → Throughout (ObeysNow e) xs
obeys_counts xs e o k = omega (arith, from xs 0 0 (omega arith) (λ ys zs q. omega (arith, each ys zs q)) k)
  where
    each : (ys zs : List Event) → xs ≡ ys ++ (start e.receiver ∷ zs) → starts e.receiver ys + 1 ≤ finishes e.sender ys + e.delay
    each ys zs q = let n = starts e.receiver ys + 1 in elim (cases_lt e.delay n) [ inl l ↦ omega (arith, o ys zs n q refl l) | inr l ↦ omega arith ]

    -- s starts of the receiver and f finishes of the sender came before
    from : (xs : List Event) (s f : ℕ) → s ≤ f + e.delay
        → ((ys zs : List Event) → xs ≡ ys ++ (start e.receiver ∷ zs) → s + starts e.receiver ys + 1 ≤ f + finishes e.sender ys + e.delay)
        → (k : ℕ) → s + starts e.receiver (take k xs) ≤ f + finishes e.sender (take k xs) + e.delay
    from xs s f h w zero = omega arith
    from [] s f h w (suc k) = omega arith
    from (start b ∷ xs) s f h w (suc k) =
        let h' : s + cond (eqb e.receiver b) 1 0 ≤ f + e.delay = elim (cases_Bool (eqb e.receiver b)) [
          | inl t ↦ rw t (omega (arith, w [] xs (rw (eqb-true e.receiver b t))))
          | inr t ↦ rw t (omega arith)
        ] in
        omega (arith, from xs (s + cond (eqb e.receiver b) 1 0) f h' (λ ys zs q. omega (arith, w (start b ∷ ys) zs (ap (λ l. start b ∷ l) q))) k)
    from (finish b ∷ xs) s f h w (suc k) =
        omega (arith, from xs s (f + cond (eqb e.sender b) 1 0) (omega arith) (λ ys zs q. omega (arith, w (finish b ∷ ys) zs (ap (λ l. finish b ∷ l) q))) k)

-- an edge is obeyed if its receiver starts, in every prefix, at most the delay more often than its sender finishes
pub counts_obeys : (xs : List Event) (e : Edge) → Throughout (ObeysNow e) xs → Obeys xs e
counts_obeys xs e c ys zs k q n l =
    let v = e.receiver in let same = eq-eqb v v refl in
    omega (arith, simp (q, take-append-add, starts-++, finishes-++, same) at (c (length ys + 1)))
