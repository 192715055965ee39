use Rattle.std.proofs.Common.{◌∙◌, rules}
use Rattle.std.proofs.lemmas.Iterator.{YieldsList-from_slice}
use Rattle.std.proofs.lemmas.Iterator.Search.{position_from_yields_List}
use Rattle.records.specs.declared.refusal.Refusal.TheVariants as refusal
use Rattle.running.specs.Runs.{unfit_link}
use Rattle.runs.proofs.Searches.{refused_by}
use Rattle.runs.proofs.checks.check_links.Goals as goal
use borrow.Author.Tests.{tests}

pub returns : goal.returns
returns c =
    let bad = unfit_link c.args.largest c.args.n in
    let found = position_from_yields_List bad _ _ c.position.result c.position.ensures.ran (YieldsList-from_slice c.args.links.now cc) (λ x b q k. search (rules, tests)) in
    c.at_found.ensures.answer ∙ refused_by bad refusal.UnfitLink c.args.links.now c.position.result found
