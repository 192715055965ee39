use Rattle.std.proofs.Common.{ltb, ◌∙◌, rules}
use Rattle.std.proofs.lemmas.Iterator.{YieldsList-from_slice}
use Rattle.std.proofs.lemmas.Iterator.Search.{any_from_yields_List}
use Rattle.runs.proofs.Searches.{any_far}
use Rattle.runs.proofs.checks.has_far_processor.Goals as goal
use borrow.Author.Tests.{tests}

pub returns : goal.returns
returns c =
    any_from_yields_List (λ x. ltb 15 x.processor) _ _ c.any.result c.any.ensures.ran (YieldsList-from_slice c.args.actors.now cc) (λ x b q k. search (rules, tests))
    ∙ any_far c.args.actors.now
