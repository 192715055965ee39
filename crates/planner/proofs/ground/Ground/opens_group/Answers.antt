use Rattle.std.proofs.Common.{length, rules}
use borrow.Author.Tests.{tests}
use Rattle.planning.specs.Groups.{same_group, opens_group}
use Rattle.planner.proofs.Below.{none_below_ran}
use Rattle.planner.proofs.ground.Ground.opens_group.Goals as goal

pub returns : goal.returns
unfolding opens_group
returns c =
    let test = same_group (length c.args.self.now.actors.now) c.args.self.now.delays.cells.now c.args.u in
    none_below_ran test c.args.u _ _ c.any.result c.any.ensures.ran (λ x b q k. search (rules, tests))
