use Rattle.std.proofs.Common.{length, ap, ◌∙◌}
use Rattle.planning.specs.Costs.{cost_after}
use Rattle.planner.proofs.Bounded.{ends_front, ends_moved}
use Rattle.planner.proofs.Finishing.{marked_edges, delays_filled, links_finished}
use Rattle.planner.proofs.plans.mark_and_size.Goals as goal

-- said of a part of the links too, so that what is laid is judged by the delays
pub invariant_of-graph-clause-ends : goal.invariant_of-graph-clause-ends
invariant_of-graph-clause-ends c =
    let n = length c.args.actors.now in
    let links = c.mark_links.new.links in
    let same = marked_edges c.args.actors.now c.args.links.now c.args.given links c.mark_links.ensures.links in
    let ends = ends_moved n c.args.links.now links same c.requires.ends in
    search (ends, ends_front n c.args.given links ends)

pub returns : goal.returns
returns c =
    let A = c.args.actors.now in
    let L = c.args.links.now in
    let given = c.args.given in
    let M = c.mark_links.new.links in
    let D = c.args.delays.now in
    let D1 = c.mark_links.new.delays in
    let D2 = c.fill.new.cells in
    let marks = c.mark_links.ensures.links in
    let kept = c.mark_links.ensures.rest in
    let links = links_finished A L given M marks D D1 D2 kept c.fill.ensures c.size_links.new.links c.size_links.ensures in
    record {
      links = links;
      delays = delays_filled A L given M marks D D1 D2 kept c.fill.ensures;
      cost = c.cost_after.ensures ∙ ap cost_after links;
    }
