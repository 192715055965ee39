use Rattle.std.proofs.Common.{ℕ, length, rules}
use borrow.Author.Tests.{tests}
use Rattle.planning.specs.Groups.{answered, end_group}
use Rattle.planner.proofs.Below.{all_below_ran}
use Rattle.planner.proofs.ground.Ground.is_end.Goals as goal

pub returns-in-Entry : goal.returns-in-Entry
unfolding end_group
returns-in-Entry c =
    let n = length c.args.self.now.actors.now in
    let test = λ (w : ℕ). answered n c.args.self.now.delays.cells.now w c.args.u in
    rw c.in-Entry.is (all_below_ran test n _ _ c.all.result c.all.ensures.ran (λ x b q k. search (rules, tests)))

pub returns-in-Exit : goal.returns-in-Exit
unfolding end_group
returns-in-Exit c =
    let n = length c.args.self.now.actors.now in
    let test = answered n c.args.self.now.delays.cells.now c.args.u in
    rw c.in-Exit.is (all_below_ran test n _ _ c.all-in-Exit.result c.all-in-Exit.ensures.ran (λ x b q k. search (rules, tests)))
