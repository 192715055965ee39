use Rattle.std.proofs.Common.{map, length, arith}
use Rattle.records.specs.Tables.{link_edge}
use Rattle.planning.specs.Edges.{orders}
use Rattle.planner.specs.Skipping.{but}
use Rattle.planner.proofs.Bounded.{edges_within}
use Rattle.planner.proofs.Filling.{filled_in_steps}
use Rattle.planner.proofs.graph.Graph.fill_but.Goals as goal

pub returns : goal.returns
returns g c =
    let actors = c.args.self.now.actors.now in
    let links = c.args.self.now.links.now in
    filled_in_steps c.args.sight g.T.Algebra.ops (length actors) c.args.cells.now c.clear.new.cells c.lay_orders.new.cells c.lay_links.new.cells c.close.new.cells
    (orders actors) (but c.args.skip 0 (map link_edge links)) (omega arith) (edges_within actors links c.args.skip c.args.self.now.ends)
    c.clear.ensures c.lay_orders.ensures c.lay_links.ensures c.close.ensures.table
