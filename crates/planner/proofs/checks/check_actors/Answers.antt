use Rattle.std.proofs.Common.{sym, ◌∙◌, rules}
use borrow.Author.Tests.{tests}
use Rattle.std.proofs.lemmas.Iterator.{YieldsList-from_slice}
use Rattle.std.proofs.lemmas.Iterator.Search.{position_from_yields_List}
use Rattle.records.specs.declared.fault.Layer.TheVariants.{Table}
use Rattle.records.specs.declared.refusal.Refusal.TheVariants as refusal
use Rattle.planning.specs.Checks.{bad_actor}
use Rattle.planner.proofs.Refusing.{refuse_position}
use Rattle.planner.proofs.checks.check_actors.Goals as goal

pub returns : goal.returns
returns c =
    let xs = c.args.actors.now in
    let found = position_from_yields_List bad_actor _ _ c.position.result c.position.ensures.ran (YieldsList-from_slice xs cc) (λ x b q k. search (rules, tests)) in
    c.at_found.ensures.answer ∙ sym (refuse_position refusal.BadActor Table bad_actor xs c.position.result found)
