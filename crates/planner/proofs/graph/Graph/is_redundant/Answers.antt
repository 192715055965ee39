use Rattle.std.proofs.Common.{leb, ◌*◌, map, length, get_or, drop, ap, ◌∙◌}
use Rattle.records.specs.declared.tables.Edge.{Edge}
use Rattle.records.specs.Tables.{no_link, link_edge}
use Rattle.paths.specs.Closure.{entry}
use Rattle.paths.specs.Models.{delay_ops}
use Rattle.planner.proofs.Filling.{redundant_read}
use Rattle.planner.proofs.graph.Graph.is_redundant.Goals as goal

pub returns-clause-value : goal.returns-clause-value
returns-clause-value c =
    let n = length c.args.self.now.actors.now in
    let es = map link_edge c.args.self.now.links.now in
    let i = c.args.i in
    let edge = link_edge (get_or c.args.self.now.links.now i no_link) in
    let after = c.fill_without.new.cells in
    ap (λ d. leb d.value c.from-edge.result.delay) c.at.ensures
    ∙ ap (λ (e : Edge). leb (entry delay_ops after n e.sender e.receiver).value e.delay) c.from-edge.ensures
    ∙ redundant_read c.args.self.now.actors.now es i edge after (drop (n * n) c.args.delays.now) (c.args.self.now.ends i c.requires.within) c.fill_without.ensures
