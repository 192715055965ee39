-- A test of every number below another, and the chains that compute it.
use Rattle.std.proofs.Common.{◌≡◌, ℕ, zero, suc, Bool, true, false, not, ◌&&◌, ◌||◌, List, [], ◌∷◌, Option, refl, ap, ◌∙◌, zero-add, arith}
use Rattle.std.proofs.Math.Bool.{and_comm, and-true}
use Rattle.std.proofs.lemmas.List.Folds.{list_all-append}
use Rattle.planner.proofs.Counting.{range_last}
use Rattle.std.proofs.iter.Yields.{nat_range_steps}
use Rattle.std.proofs.lemmas.Iterator.{YieldsList-from_range}
use Rattle.std.proofs.lemmas.Iterator.Search.{all_from_yields_List, any_from_yields_List}
use Rattle.std.specs.Fn.{Called}
use Rattle.std.specs.Iterator.{YieldsThen}
use Rattle.std.specs.List.{FoldsTo, list_all, list_any, range_with_len}
use Rattle.std.specs.Option.{MatchOption}
use Rattle.std.specs.declared.ops.Range.{Range}
use denote.Param.Members.{Mut}
use Rattle.planning.specs.Groups.{all_below}

pub all_is_below : (p : ℕ → Bool) (k : ℕ) → list_all p (range_with_len 0 k) ≡ all_below p k
all_is_below p zero = refl
all_is_below p (suc k) =
    ap (list_all p) (range_last 0 k k (zero-add k)) ∙ list_all-append p (range_with_len 0 k) (k ∷ [])
    ∙ ap (λ x. list_all p (range_with_len 0 k) && x) (and-true (p k)) ∙ and_comm (list_all p (range_with_len 0 k)) (p k)
    ∙ ap (λ x. p k && x) (all_is_below p k)

not_or : (a b : Bool) → not (a || b) ≡ (not a && not b)
not_or true b = refl
not_or false b = refl

not_any : {X : Type 0} (p : X → Bool) (xs : List X) → not (list_any p xs) ≡ list_all (λ x. not (p x)) xs
not_any p [] = refl
not_any p (x ∷ xs) = not_or (p x) (list_any p xs) ∙ ap (λ b. not (p x) && b) (not_any p xs)

module _ {F : Type 0} {g : Mut F (ℕ × Unit {0}) Bool} (test : ℕ → Bool) (n : ℕ) (u : Range ℕ) (f : F) (r : Bool) where
  -- what `(0..n).all(test)` answers
  pub all_below_ran :
      (xs : List ℕ) × (o : Option ℕ) × (j : F) × YieldsThen nat_range_steps (record { start = 0; end = n }) xs o u × FoldsTo (λ p x q. Called g p (x, tt) true q) f xs j
      × MatchOption o (r ≡ true) (λ x. (r ≡ false) × ((h : F) × Called g j (x, tt) false h))
      → ((x : ℕ) (b : Bool) (q : F) → Called g f (x, tt) b q → (q ≡ f) × (b ≡ test x)) → r ≡ all_below test n
  all_below_ran ran tests =
      all_from_yields_List test u f r ran (YieldsList-from_range 0 n n refl (omega arith)) tests ∙ all_is_below test n

  -- what `!(0..n).any(test)` answers
  pub none_below_ran :
      (xs : List ℕ) × (o : Option ℕ) × (j : F) × YieldsThen nat_range_steps (record { start = 0; end = n }) xs o u × FoldsTo (λ p x q. Called g p (x, tt) false q) f xs j
      × MatchOption o (r ≡ false) (λ x. (r ≡ true) × ((h : F) × Called g j (x, tt) true h))
      → ((x : ℕ) (b : Bool) (q : F) → Called g f (x, tt) b q → (q ≡ f) × (b ≡ test x)) → not r ≡ all_below (λ w. not (test w)) n
  none_below_ran ran tests =
      ap not (any_from_yields_List test u f r ran (YieldsList-from_range 0 n n refl (omega arith)) tests)
      ∙ not_any test (range_with_len 0 n) ∙ all_is_below (λ w. not (test w)) n
