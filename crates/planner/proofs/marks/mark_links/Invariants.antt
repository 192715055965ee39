use Rattle.std.proofs.Common.{◌≡◌, ◌*◌, ◌++◌, map, length, take, drop}
use Rattle.records.specs.Tables.{link_edge}
use Rattle.planning.specs.Marks.{marked}
use Rattle.planner.proofs.marks.mark_links.Given as goal

abbrev pub invariant-loop-i : goal.invariant-loop-i
invariant-loop-i l =
    let n = length l.actors in
    (l.links ≡ marked l.actors (map link_edge (l.initial.links)) (take l.i l.initial.links) ++ drop l.i l.initial.links)
    × (drop (n * n) l.delays ≡ drop (n * n) l.initial.delays)
    × (length l.links ≡ length l.initial.links)
