use Rattle.std.proofs.Common.{length, rules}
use borrow.Author.Tests.{tests}
use Rattle.planning.specs.Groups.{grouped_if_joined, one_group}
use Rattle.planner.proofs.Below.{all_below_ran}
use Rattle.planner.proofs.ground.Ground.is_one_group.Goals as goal

pub returns : goal.returns
unfolding one_group
returns c =
    let n = length c.args.self.now.actors.now in
    let test = grouped_if_joined n c.args.self.now.delays.cells.now c.args.self.now.joined.cells.now c.args.u in
    all_below_ran test n _ _ c.all.result c.all.ensures.ran (λ x b q k. search (rules, tests))
