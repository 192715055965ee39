-- The fold over a range that finds the actor that stands for a group.
use Rattle.std.proofs.Common.{◌≡◌, ℕ, zero, suc, ◌<◌, cond, List, [], ◌∷◌, ◌++◌, sym, refl, ap, ◌∙◌, zero-add, arith}
use Rattle.std.proofs.iter.Yields.{nat_range_steps}
use Rattle.std.proofs.lemmas.List.Sums.{fold_push}
use Rattle.std.specs.Iterator.{Yields}
use Rattle.std.specs.List.{fold, range_with_len}
use Rattle.std.specs.declared.ops.Range.{Range}
use Rattle.records.specs.declared.tables.Actor.{Actor}
use Rattle.paths.specs.declared.delay.Delay.{Delay}
use Rattle.planning.specs.Groups.{stands_better, stand_below}
use Rattle.planner.proofs.Counting.{range_last}

-- each of these numbers is below n
abbrev pub AllUnder : ℕ → List ℕ → Type 0
AllUnder n [] = Unit {0}
AllUnder n (u ∷ us) = (u < n) × AllUnder n us

pub under_last : (n : ℕ) (xs : List ℕ) (x : ℕ) → AllUnder n (xs ++ (x ∷ [])) → AllUnder n xs × (x < n)
under_last n [] x h = (tt, h.0)
under_last n (y ∷ ys) x h = let r = under_last n ys x h.1 in ((h.0, r.0), r.1)

-- what a range gives
pub range_under : (n : ℕ) (xs : List ℕ) (s t : Range ℕ) → s.end ≡ n → Yields nat_range_steps s xs t → AllUnder n xs × (t.end ≡ n)
range_under n [] s t e y = (tt, ap (λ r. r.end) (sym y) ∙ e)
range_under n (x ∷ xs) s t e y =
    let later = range_under n xs y.0 t (y.1.0 ∙ e) y.2 in
    let here : x < n = omega (arith, y.1.1.0, y.1.1.1, e) in
    ((here, later.0), later.1)

module _ (actors : List Actor) (n : ℕ) (delays : List Delay) (u : ℕ) where
  -- the better of the best so far and one more
  abbrev pub better : ℕ → ℕ → ℕ
  better best w = cond (stands_better actors n delays u w best) w best

  pub better_all : (k : ℕ) → fold better u (range_with_len 0 k) ≡ stand_below actors n delays u k
  better_all zero = refl
  better_all (suc k) =
      ap (fold better u) (range_last 0 k k (zero-add k)) ∙ fold_push better u (range_with_len 0 k) k ∙ ap (λ b. better b k) (better_all k)
