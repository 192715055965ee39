-- Live edges let the actors reach every target that keeps the edges' waits.
use Rattle.std.proofs.Common.{◌≡◌, ℕ, zero, suc, ◌+◌, ◌-◌, ◌<◌, ◌≤◌, ◌⊎◌, List, [], ◌∷◌, ◌++◌, sym, refl, subst, inl, inr, arith}
use lib.Seq.{take-nil}
use Rattle.std.proofs.lemmas.Bool.{cases_eq, cases_lt}
use Rattle.records.specs.declared.tables.Edge.{Edge}
use Rattle.waits.specs.Events.{Event, start, finish, starts, finishes, Lawful, In, ObeysAll, Live, Within}
use Rattle.waits.proofs.Counts.{once_tells, starts_start, finishes_start, starts_finish, finishes_finish}
use Rattle.waits.proofs.Prefixes.{LawfulNow, ObeysNow, Throughout, at_end, one_more, counts_lawful, counts_obeys}
use Rattle.waits.proofs.Progress.{ready}

-- one of the numbers below n has P, or all have Q
some_below : (P Q : ℕ → Type 0) → ((x : ℕ) → P x ⊎ Q x) → (n : ℕ) → ((x : ℕ) × (x < n) × P x) ⊎ ((x : ℕ) → x < n → Q x)
some_below P Q either zero = inr (λ x h. let z : ⊥ = omega arith in absurd z)
some_below P Q either (suc n) = elim (either n) [
  | inl p ↦ inl (n, omega arith, p)
  | inr q ↦ elim (some_below P Q either n) [
    | inl (x, h, p) ↦ inl (x, omega arith, p)
    | inr all ↦ inr (λ x h. elim (cases_eq x n) [ inl e ↦ subst Q (sym e) q | inr ne ↦ all x (omega arith) ])
  ]
]

-- the sum of h over the numbers below n
total : (ℕ → ℕ) → ℕ → ℕ
total h zero = 0
total h (suc n) = h n + total h n

total_le : (g h : ℕ → ℕ) → ((x : ℕ) → g x ≤ h x) → (n : ℕ) → total g n ≤ total h n
unfolding total
total_le g h l zero = omega arith
total_le g h l (suc n) = omega (arith, l n, total_le g h l n)

total_lt : (g h : ℕ → ℕ) → ((x : ℕ) → g x ≤ h x) → (a : ℕ) → g a < h a → (n : ℕ) → a < n → total g n < total h n
unfolding total
total_lt g h l a s zero k = omega arith
total_lt g h l a s (suc n) k = elim (cases_eq a n) [
  | inl e ↦ let t = total_le g h l n in grind arith
  | inr ne ↦ omega (arith, l n, total_lt g h l a s n (omega arith))
]

module _ (es : List Edge) (n : ℕ) (live : Live es) (within : Within n es) (s f : ℕ → ℕ)
    (near : (x : ℕ) → (f x ≤ s x) × (s x ≤ f x + 1)) (room : (e : Edge) → In e es → s e.receiver ≤ f e.sender + e.delay) where
  -- xs is on its way to the targets
  record Toward (xs : List Event) : Type 0 where
    lawful : (a : ℕ) → Throughout (LawfulNow a) xs
    obeys : (e : Edge) → In e es → Throughout (ObeysNow e) xs
    low : (x : ℕ) → (starts x xs ≤ s x) × (finishes x xs ≤ f x)
    outside : (x : ℕ) → n ≤ x → (starts x xs ≡ 0) × (finishes x xs ≡ 0)

  none_yet : Toward []
  none_yet = record {
    lawful = λ a k. rw take-nil (omega arith);
    obeys = λ e h k. rw take-nil (omega arith);
    low = λ x. omega arith;
    outside = λ x h. (refl, refl);
  }

  finished : (xs : List Event) → Toward xs → (a : ℕ) → a < n → finishes a xs < f a → finishes a xs < starts a xs → Toward (xs ++ (finish a ∷ []))
  finished xs t a h below busy = record {
    lawful = λ x. one_more (LawfulNow x) xs (finish a) (t.lawful x)
        (let w = at_end (LawfulNow x) xs (t.lawful x) in simp (starts_finish, finishes_finish) (grind (arith, once_tells)));
    obeys = λ e i. one_more (ObeysNow e) xs (finish a) (t.obeys e i)
        (let w = at_end (ObeysNow e) xs (t.obeys e i) in simp (starts_finish, finishes_finish) (omega arith));
    low = λ x. let w = t.low x in simp (starts_finish, finishes_finish) (grind (arith, once_tells));
    outside = λ x o. let w = t.outside x o in simp (starts_finish, finishes_finish) (grind (arith, once_tells));
  }

  started : (xs : List Event) → Toward xs → (a : ℕ) → a < n → starts a xs < s a → starts a xs ≤ finishes a xs
      → ((e : Edge) → In e es → e.receiver ≡ a → starts a xs + 1 ≤ finishes e.sender xs + e.delay) → Toward (xs ++ (start a ∷ []))
  started xs t a h below idle free = record {
    lawful = λ x. one_more (LawfulNow x) xs (start a) (t.lawful x)
        (let w = at_end (LawfulNow x) xs (t.lawful x) in simp (starts_start, finishes_start) (grind (arith, once_tells)));
    obeys = λ e i. one_more (ObeysNow e) xs (start a) (t.obeys e i)
        (let w = at_end (ObeysNow e) xs (t.obeys e i) in let z = free e i in simp (starts_start, finishes_start) (grind (arith, once_tells)));
    low = λ x. let w = t.low x in simp (starts_start, finishes_start) (grind (arith, once_tells));
    outside = λ x o. let w = t.outside x o in simp (starts_start, finishes_start) (grind (arith, once_tells));
  }

  -- how many events the targets still want
  left : List Event → ℕ
  left xs = total (λ x. (s x - starts x xs) + (f x - finishes x xs)) n

  left_finish : (xs : List Event) (a : ℕ) → a < n → finishes a xs < f a → left (xs ++ (finish a ∷ [])) < left xs
  unfolding left
  left_finish xs a h below = total_lt _ _ (λ x. simp (starts_finish, finishes_finish) (omega arith)) a
      (let t = once_tells a a in simp (starts_finish, finishes_finish) (grind arith)) n h

  left_start : (xs : List Event) (a : ℕ) → a < n → starts a xs < s a → left (xs ++ (start a ∷ [])) < left xs
  unfolding left
  left_start xs a h below = total_lt _ _ (λ x. simp (starts_start, finishes_start) (omega arith)) a
      (let t = once_tells a a in simp (starts_start, finishes_start) (grind arith)) n h

  may_finish : (xs : List Event) (x : ℕ) → ((finishes x xs < f x) × (finishes x xs < starts x xs)) ⊎ (finishes x xs < f x → starts x xs ≤ finishes x xs)
  may_finish xs x = elim (cases_lt (finishes x xs) (starts x xs)) [
    | inr idle ↦ inr (λ _. idle)
    | inl busy ↦ elim (cases_lt (finishes x xs) (f x)) [ inl below ↦ inl (below, busy) | inr done ↦ inr (λ below. omega arith) ]
  ]

  abbrev Reached : List Event → Type 0
  Reached xs = (x : ℕ) → x < n → (starts x xs ≡ s x) × (finishes x xs ≡ f x)

  -- finish what has to finish; else start what is ready; else the targets are reached
  go_on : (m : ℕ) (xs : List Event) → left xs < m → Toward xs → (ys : List Event) × Toward ys × Reached ys
  go_on zero xs l t = let z : ⊥ = omega arith in absurd z
  go_on (suc m) xs l t = elim (some_below _ _ (may_finish xs) n) [
    | inl (a, h, (below, busy)) ↦ go_on m (xs ++ (finish a ∷ [])) (omega (arith, left_finish xs a h below)) (finished xs t a h below busy)
    | inr quiet ↦ elim (some_below (λ x. starts x xs < s x) (λ x. s x ≤ starts x xs) (λ x. cases_lt (starts x xs) (s x)) n) [
      | inl (y, h, late) ↦
          let (a, h', below, idle, free) = ready es n live within s f near room (λ x. starts x xs) (λ x. finishes x xs) (λ x. at_end (LawfulNow x) xs (t.lawful x)) quiet y h late in
          go_on m (xs ++ (start a ∷ [])) (omega (arith, left_start xs a h' below)) (started xs t a h' below idle free)
      | inr all ↦ (xs, t, λ x h. (omega (arith, all x h, t.low x), ends x (quiet x h) (all x h) (t.low x)))
    ]
  ]
    where
      ends : (x : ℕ) → (finishes x xs < f x → starts x xs ≤ finishes x xs) → s x ≤ starts x xs → (starts x xs ≤ s x) × (finishes x xs ≤ f x) → finishes x xs ≡ f x
      ends x quiet all low = elim (cases_lt (finishes x xs) (f x)) [ inl c ↦ omega (arith, quiet c, near x) | inr d ↦ omega arith ]

  reached : (xs : List Event) × Toward xs × Reached xs
  reached = go_on (suc (left [])) [] (omega arith) none_yet

-- over live edges within n actors, targets that keep the waits are the exact counts of some lawful list that obeys all edges
pub target_reached : (es : List Edge) (n : ℕ) → Live es → Within n es → (s f : ℕ → ℕ) → ((x : ℕ) → (f x ≤ s x) × (s x ≤ f x + 1))
    → ((e : Edge) → In e es → s e.receiver ≤ f e.sender + e.delay)
    → (xs : List Event) × Lawful xs × ObeysAll xs es × ((x : ℕ) → x < n → (starts x xs ≡ s x) × (finishes x xs ≡ f x)) × ((x : ℕ) → n ≤ x → (starts x xs ≡ 0) × (finishes x xs ≡ 0))
target_reached es n live within s f near room =
    let (xs, t, counts) = reached es n live within s f near room in
    (xs, counts_lawful xs t.lawful, (λ e i. counts_obeys xs e (t.obeys e i)), counts, t.outside)
