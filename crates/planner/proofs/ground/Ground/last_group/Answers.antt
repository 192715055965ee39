use Rattle.std.proofs.Common.{length, ◌∙◌, rules}
use native.Mathlib.Nat.{sub-zero}
use borrow.Author.Tests.{tests}
use Rattle.std.proofs.lemmas.Iterator.Search.{find_from_yields_List}
use Rattle.planning.specs.Backs.{heads}
use Rattle.planner.specs.Views.{seen}
use Rattle.planner.proofs.Counting.{YieldsList-from_range_back}
use Rattle.planner.proofs.Heads.{last_found}
use Rattle.planner.proofs.ground.Ground.last_group.Goals as goal

pub returns-clause-value : goal.returns-clause-value
returns-clause-value c =
    let g = seen c.args.self.now in
    let n = length c.args.self.now.actors.now in
    let found = find_from_yields_List (heads g c.args.end c.args.p) _ _ c.rfind.result c.rfind.ensures.ran (YieldsList-from_range_back _ _ (λ b. sub-zero b) (λ a b h. h) n) (λ x b q k. search (rules, tests)) in
    c.unwrap_or.ensures ∙ last_found g c.args.end c.args.p c.rfind.result found
