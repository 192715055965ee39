use Rattle.std.proofs.Common.{length, ap, ◌∙◌}
use Rattle.planning.specs.Tables.{lay_seen}
use Rattle.planner.proofs.Laying.{laid_order_more}
use Rattle.planner.proofs.graph.Graph.lay_orders.Goals as goal

pub loop-v-preserved : goal.loop-v-preserved
loop-v-preserved g c =
    let n = length c.args.self.now.actors.now in
    let is = c.lay_seen.ensures ∙ ap (lay_seen c.args.sight g.T.Algebra.ops n c.loop-v.cells) c.order_edge.ensures.value in
    laid_order_more c.args.sight g.T.Algebra.ops n c.args.self.now.actors.now c.loop-v.v c.loop-v.cells c.lay_seen.new.cells c.loop-v-test.true is
    ∙ c.loop-v.invariant
