use Rattle.std.proofs.Common.{length, refl, ◌∙◌, rules, arith}
use borrow.Author.Tests.{tests}
use Rattle.std.proofs.lemmas.Iterator.{YieldsList-from_range}
use Rattle.std.proofs.lemmas.Iterator.Search.{find_from_yields_List}
use Rattle.planning.specs.Backs.{heads}
use Rattle.planner.specs.Views.{seen}
use Rattle.planner.proofs.Heads.{first_found}
use Rattle.planner.proofs.ground.Ground.first_group.Goals as goal

pub returns-clause-value : goal.returns-clause-value
returns-clause-value c =
    let g = seen c.args.self.now in
    let n = length c.args.self.now.actors.now in
    let found = find_from_yields_List (heads g c.args.end c.args.p) _ _ c.find.result c.find.ensures.ran (YieldsList-from_range 0 n n refl (omega arith)) (λ x b q k. search (rules, tests)) in
    c.unwrap_or.ensures ∙ first_found g c.args.end c.args.p c.find.result found
