use Rattle.std.proofs.Common.{◌∙◌, rules}
use Rattle.std.proofs.lemmas.Iterator.{YieldsList-from_slice, YieldsList-from_zip}
use Rattle.std.proofs.lemmas.Iterator.Search.{position_from_yields_List}
use Rattle.std.proofs.lemmas.Iterator.Adapters.{position_from-zero}
use Rattle.std.specs.List.{zip}
use Rattle.running.specs.Rows.{blocks}
use Rattle.runs.proofs.Searches.{position_of_pair}
use Rattle.runs.proofs.rows.Event.first_blocked.Goals as goal
use borrow.Author.Tests.{tests}

pub returns : goal.returns
returns g c =
    let fails = blocks c.args.self.act c.args.self.actor in
    let links = c.args.links.now in
    let row = c.args.row.now in
    position_from_yields_List (λ x. fails x.0 (g.G.Guard.level x.1)) c.position.new.self _ c.position.result c.position.ensures.ran
    (YieldsList-from_zip (YieldsList-from_slice links cc) (YieldsList-from_slice row cc)) (λ x b q k. search (rules, tests))
    ∙ position_from-zero _ (zip links row) ∙ position_of_pair fails g.G.Guard.level 0 links row
