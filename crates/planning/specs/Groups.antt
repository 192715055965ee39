-- Groups and parts, read off the least delays without back links and the table of who shares a part.
use Rattle.std.specs.Prelude.{ℕ, zero, suc, Bool, true, cond, not, ◌&&◌, ◌||◌, List, nat_lt, slice_index_or}
use Rattle.records.specs.declared.tables.Actor.{Actor}
use Rattle.records.specs.Tables.{no_actor}
use Rattle.paths.specs.Closure.{entry}
use Rattle.paths.specs.Models.{reach_ops, delay_ops}
use Rattle.paths.specs.declared.delay.Delay.{Delay}
use Rattle.paths.specs.declared.reach.Reach.{Reach}
use Rattle.planning.specs.declared.End.{End}
use Rattle.planning.specs.declared.End.TheVariants.{Entry, Exit}

-- the test passes for every number below k
abbrev pub all_below : (ℕ → Bool) → ℕ → Bool
all_below p zero = true
all_below p (suc k) = p k && all_below p k

-- some path leads from u to v
abbrev pub reaches : ℕ → List Delay → ℕ → ℕ → Bool
reaches n delays u v = nat_lt (entry delay_ops delays n u v).value 4294967295

-- u and v reach each other
abbrev pub same_group : ℕ → List Delay → ℕ → ℕ → Bool
same_group n delays u v = reaches n delays u v && reaches n delays v u

-- u and v are joined when direction is ignored
abbrev pub same_part : ℕ → List Reach → ℕ → ℕ → Bool
same_part n joined u v = (entry reach_ops joined n u v).yes

-- a path from u to v, if there is one, is answered by a path back
abbrev pub answered : ℕ → List Delay → ℕ → ℕ → Bool
answered n delays u v = not (reaches n delays u v) || reaches n delays v u

-- the group of u is entered by no edge from outside, or left by none
unfoldable pub end_group : End → ℕ → List Delay → ℕ → Bool
end_group Entry n delays u = all_below (λ w. answered n delays w u) n
end_group Exit n delays u = all_below (λ w. answered n delays u w) n

-- u is the lowest actor of its group
unfoldable pub opens_group : ℕ → List Delay → ℕ → Bool
opens_group n delays u = all_below (λ w. not (same_group n delays u w)) u

-- u is the lowest actor of its part
unfoldable pub opens_part : ℕ → List Reach → ℕ → Bool
opens_part n joined u = all_below (λ w. not (same_part n joined u w)) u

-- v, if it shares the part of u, shares its group too
abbrev pub grouped_if_joined : ℕ → List Delay → List Reach → ℕ → ℕ → Bool
grouped_if_joined n delays joined u v = not (same_part n joined u v) || same_group n delays u v

-- the part of u is one group
unfoldable pub one_group : ℕ → List Delay → List Reach → ℕ → Bool
one_group n delays joined u = all_below (λ w. grouped_if_joined n delays joined u w) n

-- w belongs to the group of u and has a smaller estimate than the actor that stands for it so far
abbrev pub stands_better : List Actor → ℕ → List Delay → ℕ → ℕ → ℕ → Bool
stands_better actors n delays u w best =
    same_group n delays u w && nat_lt (slice_index_or actors w no_actor).estimate (slice_index_or actors best no_actor).estimate

-- the actor of least estimate in the group of u, its lowest actor, among those below k; the lowest on a tie
abbrev pub stand_below : List Actor → ℕ → List Delay → ℕ → ℕ → ℕ
stand_below actors n delays u zero = u
stand_below actors n delays u (suc k) =
    let best = stand_below actors n delays u k in cond (stands_better actors n delays u k best) k best

-- the actor that stands for the group whose lowest actor is u
unfoldable pub stand_in : List Actor → ℕ → List Delay → ℕ → ℕ
stand_in actors n delays u = stand_below actors n delays u n
