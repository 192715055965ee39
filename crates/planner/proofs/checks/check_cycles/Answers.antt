use Rattle.std.proofs.Common.{sym, ◌∙◌, refl, rules, arith}
use borrow.Author.Tests.{tests}
use Rattle.std.proofs.lemmas.Iterator.{YieldsList-from_range}
use Rattle.std.proofs.lemmas.Iterator.Search.{find_from_yields_List}
use Rattle.records.specs.declared.fault.Layer.TheVariants.{Plan}
use Rattle.records.specs.declared.refusal.Refusal.TheVariants as refusal
use Rattle.planning.specs.Checks.{check_cycles, on_cycle}
use Rattle.planner.proofs.Refusing.{refuse_found}
use Rattle.planner.proofs.checks.check_cycles.Goals as goal

pub returns : goal.returns
unfolding check_cycles
returns c =
    let n = c.args.free.now.n in
    let bad = on_cycle n c.args.free.now.cells.now in
    let found = find_from_yields_List bad _ _ c.find.result c.find.ensures.ran (YieldsList-from_range 0 n n refl (omega arith)) (λ x b q k. search (rules, tests)) in
    c.at_found.ensures.answer ∙ sym (refuse_found refusal.Deadlock Plan bad n c.find.result found)
