-- The numbers that a loop from 0 to n has still to come to, and the numbers below n from the last one down.
use Rattle.std.proofs.Common.{◌≡◌, ℕ, zero, suc, ◌+◌, ◌-◌, ◌<◌, ◌≤◌, List, [], ◌∷◌, ◌++◌, Some, None, Option, refl, ap, ◌∙◌, add-one, arith}
use Rattle.std.specs.Iterator.{AlwaysYields}
use Rattle.std.specs.List.{range_with_len}
use Rattle.std.specs.Option.{option_map}
use Rattle.std.specs.Range.{range_steps_back}
use Rattle.std.specs.declared.ops.Range.{Range}
use Rattle.std.proofs.lemmas.Iterator.{YieldsList}

pub counting_more : (v n : ℕ) → v < n → range_with_len v (n - v) ≡ v ∷ range_with_len (v + 1) (n - (v + 1))
counting_more v n h = let e : n - v ≡ (n - (v + 1)) + 1 = omega arith in ap (range_with_len v) (e ∙ add-one (n - (v + 1)))

pub counting_none : (v n : ℕ) → n ≤ v → range_with_len v (n - v) ≡ []
counting_none v n h = let e : n - v ≡ 0 = omega arith in ap (range_with_len v) e

pub range_last : (a k j : ℕ) → a + k ≡ j → range_with_len a (suc k) ≡ range_with_len a k ++ (j ∷ [])
range_last a zero j e = let at : a ≡ j = omega arith in ap (λ i. i ∷ []) at
range_last a (suc k) j e = ap (λ xs. a ∷ xs) (range_last (a + 1) k j (omega arith))

abbrev pub downward : ℕ → List ℕ
downward zero = []
downward (suc k) = k ∷ downward k

module _ (gap : ℕ → ℕ → ℕ) (follows : ℕ → ℕ → Type 0) (wide : (b : ℕ) → gap 0 b ≡ b) (next : (a b : ℕ) → follows a b → b ≡ a + 1) where
  downward_steps : (k : ℕ) (s : Range ℕ) → s.start ≡ 0 → s.end ≡ k → AlwaysYields (range_steps_back gap follows) (λ x. x) s (downward k)
  downward_steps zero s at end = λ x j h.
      let none : gap s.start s.end ≡ 0 = ap (λ a. gap a s.end) at ∙ wide s.end ∙ end in
      omega (arith, h.1.0)
  downward_steps (suc k) s at end =
      let some : gap s.start s.end ≡ suc k = ap (λ a. gap a s.end) at ∙ wide s.end ∙ end in (
        λ j h. omega (arith, h.1.0),
        λ x j h.
            let last : j.end ≡ k = omega (arith, next j.end s.end h.1.2) in
            (h.1.1 ∙ last, downward_steps k j (h.0 ∙ at) last),
      )

  -- what a range gives from its end
  pub YieldsList-from_range_back : (k : ℕ) → YieldsList (range_steps_back gap follows) (λ x. x) (record { start = 0; end = k }) (downward k)
  YieldsList-from_range_back k = record { runs = downward_steps k (record { start = 0; end = k }) refl refl }

pub same_number : (r : Option ℕ) → option_map (λ x. x) r ≡ r
same_number None = refl
same_number (Some x) = refl
