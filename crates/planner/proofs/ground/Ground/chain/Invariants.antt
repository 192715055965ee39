use Rattle.std.proofs.Common.{◌<◌, length, IfSome, None}
use Rattle.planning.specs.Backs.{chain, groups_of}
use Rattle.planner.specs.Views.{seen, listed}
use Rattle.planner.proofs.Found.{Finding}
use Rattle.planner.proofs.Heads.{heads_left}
use Rattle.planner.proofs.ground.Ground.chain.Given as goal

abbrev pub invariant-loop-u : goal.invariant-loop-u
invariant-loop-u l =
    let n = length l.self.actors.now in
    let g = seen l.self in
    Finding (listed l.initial.found) (chain g None (groups_of g l.end l.p)) (listed l.found) (chain g l.earlier (heads_left g l.end l.p n l.u))
    × IfSome l.earlier (λ w. w < n)
