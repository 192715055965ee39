-- Counts of the numbers that pass a test, compared.
use Rattle.std.proofs.Common.{◌≡◌, ℕ, zero, suc, ◌+◌, ◌<◌, ◌≤◌, Bool, true, false, not, ◌&&◌, eqb, refl, ap, inl, inr, arith}
use Rattle.std.proofs.lemmas.Bool.Decides.{nat_tests}
use Rattle.std.proofs.lemmas.Bool.{cases_Bool, cases_eq, ne_eqb, true≢false}
use Rattle.waits.specs.Counting.{count}

-- the test that j fails too
pub without : (ℕ → Bool) → ℕ → ℕ → Bool
without C j i = not (eqb i j) && C i

pub without_keeps : (C : ℕ → Bool) (j i : ℕ) → C i ≡ true → (i ≡ j → ⊥) → without C j i ≡ true
unfolding without
without_keeps C j i c ne = rw (ne_eqb i j ne) c

without_past : (C : ℕ → Bool) (j m : ℕ) → m ≤ j → count (without C j) m ≡ count C m
unfolding without
without_past C j zero h = refl
without_past C j (suc m) h = let i = without_past C j m (omega arith) in grind (arith, nat_tests)

-- one number fewer passes
pub count_without : (C : ℕ → Bool) (j m : ℕ) → j < m → C j ≡ true → count C m ≡ 1 + count (without C j) m
unfolding without
count_without C j zero h c = omega arith
count_without C j (suc m) h c = elim (cases_eq j m) [
  | inl e ↦ let z = without_past C j m (omega arith) in grind (arith, nat_tests)
  | inr ne ↦ let z = count_without C j m (omega arith) c in grind (arith, nat_tests)
]

-- where each number below k with K is the image of one below m with C, at most as many have K as have C
pub counting : (K C : ℕ → Bool) (h : ℕ → ℕ) (k m : ℕ) → ((e : ℕ) → e < k → K e ≡ true → (j : ℕ) × (j < m) × (C j ≡ true) × (h j ≡ e))
    → count K k ≤ count C m
counting K C h zero m s = omega arith
counting K C h (suc k) m s = elim (cases_Bool (K k)) [
  | inl t ↦
      let (j, l, c, q) = s k (omega arith) t in
      rw t (omega (arith, count_without C j m l c, counting K (without C j) h k m (rest j q)))
  | inr f ↦ rw f (omega (arith, counting K C h k m (λ e l t. s e (omega arith) t)))
]
  where
    rest : (j : ℕ) → h j ≡ k → (e : ℕ) → e < k → K e ≡ true → (i : ℕ) × (i < m) × (without C j i ≡ true) × (h i ≡ e)
    rest j q e l t = let (i, b, c, r) = s e (omega arith) t in (i, b, without_keeps C j i c (λ z. omega (arith, ap h z)), r)

-- fewer numbers below n pass p than q if all that pass p pass q, and one passes q alone
pub count_lt : (p q : ℕ → Bool) → ((i : ℕ) → p i ≡ true → q i ≡ true) → (a : ℕ) → p a ≡ false → q a ≡ true → (n : ℕ) → a < n → count p n < count q n
count_lt p q h a pa qa n l =
    omega (arith, count_without q a n l qa, counting p (without q a) (λ i. i) n n (λ i b t. (i, b, without_keeps q a i (h i t) (λ e. true≢false (cc)), refl)))
