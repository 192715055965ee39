use Rattle.std.proofs.Common.{eqb, ◌∙◌, rules}
use Rattle.std.proofs.lemmas.Iterator.{YieldsList-from_slice}
use Rattle.std.proofs.lemmas.Iterator.Search.{position_from_yields_List}
use Rattle.std.proofs.lemmas.Iterator.Adapters.{position_from-zero}
use Rattle.records.specs.declared.tables.Actor.{Actor}
use Rattle.runs.proofs.Searches.{position_on}
use Rattle.runs.proofs.turns.first_on.Goals as goal
use borrow.Author.Tests.{tests}

pub returns-clause-first : goal.returns-clause-first
returns-clause-first c =
    position_from_yields_List (λ (x : Actor). eqb x.processor c.args.processor) _ _ c.position.result c.position.ensures.ran (YieldsList-from_slice c.args.actors.now cc) (λ x b q k. search (rules, tests))
    ∙ position_from-zero _ c.args.actors.now ∙ position_on c.args.processor 0 c.args.actors.now
