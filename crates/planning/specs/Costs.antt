-- What synchronization costs in one iteration, before and after planning.
use Rattle.std.specs.Prelude.{ℕ, ◌+◌, cond, ◌||◌, List, [], ◌∷◌, ◌==◌}
use Rattle.records.specs.declared.tables.Actor.{Actor}
use Rattle.records.specs.declared.tables.Link.{Link}
use Rattle.records.specs.Tables.{link_edge}
use Rattle.paths.specs.declared.delay.Delay.{Delay}
use Rattle.planning.specs.Groups.{same_group}
use Rattle.planning.specs.Marks.{local}

-- 4 for a cross link between two groups, 2 for one within a group
abbrev pub link_cost_before : List Actor → ℕ → List Delay → Link → ℕ
link_cost_before actors n delays l =
    cond (local actors (link_edge l)) 0 (cond (same_group n delays l.sender l.receiver) 2 4)

abbrev pub cost_before : List Actor → ℕ → List Delay → List Link → ℕ
cost_before actors n delays [] = 0
cost_before actors n delays (l ∷ ls) = link_cost_before actors n delays l + cost_before actors n delays ls

-- 2 for a kept or back link, by its mark
abbrev pub link_cost_after : Link → ℕ
link_cost_after l = cond (l.mark == 1 || l.mark == 3) 2 0

abbrev pub cost_after : List Link → ℕ
cost_after [] = 0
cost_after (l ∷ ls) = link_cost_after l + cost_after ls
