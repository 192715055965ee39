use Rattle.std.proofs.Common.{◌-◌, [], length}
use Rattle.std.specs.List.{range_with_len}
use Rattle.planning.specs.Backs.{backs_among}
use Rattle.planner.specs.Views.{seen, listed}
use Rattle.planner.proofs.Found.{Finding}
use Rattle.planner.proofs.ground.Ground.back_links.Given as goal

abbrev pub invariant-loop-p : goal.invariant-loop-p
invariant-loop-p l =
    let n = length l.self.actors.now in
    let g = seen l.self in
    Finding [] (backs_among g l.lead (range_with_len 0 n)) (listed l.found) (backs_among g l.lead (range_with_len l.p (n - l.p)))
