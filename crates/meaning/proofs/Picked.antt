-- The numbers that pass a test, rising.
use Rattle.std.proofs.Common.{◌≡◌, ℕ, zero, suc, ◌+◌, ◌<◌, ◌≤◌, Bool, true, cond, List, [], ◌∷◌, Decides, sym, subst, inl, inr, arith}
use Rattle.std.specs.List.{range_with_len}
use Rattle.std.proofs.lemmas.Bool.{cases_eq, cond_both, both_ways}
use Rattle.meaning.specs.Components.{Among, Rises, Rising}

-- those of us that pass the test
abbrev pub picked : (ℕ → Bool) → List ℕ → List ℕ
picked test [] = []
picked test (u ∷ us) = cond (test u) (u ∷ picked test us) (picked test us)

module _ (test : ℕ → Bool) where
  picked_each : (a k u : ℕ) → Among u (picked test (range_with_len a k)) → (a ≤ u) × (u < a + k) × (test u ≡ true)
  picked_each a zero u i = absurd i
  picked_each a (suc k) u i =
      let later : Among u (picked test (range_with_len (a + 1) k)) → (a ≤ u) × (u < a + suc k) × (test u ≡ true) = λ j.
      let (low, high, t) = picked_each (a + 1) k u j in (omega arith, omega arith, t) in
      cond_both (test a) (a ∷ picked test (range_with_len (a + 1) k)) (picked test (range_with_len (a + 1) k)) (λ us. Among u us → (a ≤ u) × (u < a + suc k) × (test u ≡ true))
      (λ t j. elim j [ inl e ↦ (omega arith, omega arith, subst (λ v. test v ≡ true) (sym e) t) | inr m ↦ later m ])
      (λ _ j. later j)
      i

  picked_all : (a k u : ℕ) → a ≤ u → u < a + k → test u ≡ true → Among u (picked test (range_with_len a k))
  picked_all a zero u low high t = absurd (omega arith)
  picked_all a (suc k) u low high t =
      let later : (u ≡ a → ⊥) → Among u (picked test (range_with_len (a + 1) k)) = λ ne. picked_all (a + 1) k u (omega arith) (omega arith) t in
      cond_both (test a) (a ∷ picked test (range_with_len (a + 1) k)) (picked test (range_with_len (a + 1) k)) (Among u)
      (λ _. elim (cases_eq u a) [ inl e ↦ inl e | inr ne ↦ inr (later ne) ])
      (λ f. later (λ e. both_ways (test a) f (subst (λ v. test v ≡ true) e t)))

  picked_rises : (a k : ℕ) → Rises (picked test (range_with_len a k))
  picked_rises a zero = tt
  picked_rises a (suc k) =
      let rest = picked_rises (a + 1) k in
      cond_both (test a) (a ∷ picked test (range_with_len (a + 1) k)) (picked test (range_with_len (a + 1) k)) Rises
      (λ _. (λ v i. omega (arith, (picked_each (a + 1) k v i).0), rest))
      (λ _. rest)

-- a test that decides P picks the numbers with P
pub picked_rising : (n : ℕ) (test : ℕ → Bool) (P : ℕ → Type 0) → ((u : ℕ) → u < n → Decides (test u) (P u)) → Rising n P (picked test (range_with_len 0 n))
picked_rising n test P each = record {
  rises = picked_rises test 0 n;
  each = λ u i. let (low, high, t) = picked_each test 0 n u i in let h : u < n = omega arith in (h, (each u h).0 t);
  all = λ u h p. picked_all test 0 n u (omega arith) (omega arith) ((each u h).1 p);
}
