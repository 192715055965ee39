use Rattle.std.proofs.Common.{length, ◌≡◌, ◌-◌, map}
use Rattle.std.specs.List.{range_with_len}
use Rattle.planning.specs.Edges.{order_edge, orders}
use Rattle.planning.specs.Tables.{laid}
use Rattle.planner.proofs.graph.Graph.lay_orders.Given as goal

abbrev pub invariant-loop-v : goal.invariant-loop-v
invariant-loop-v g l =
    let o = g.T.Algebra.ops in
    laid l.sight o (length l.self.actors.now) l.cells (map (order_edge l.self.actors.now) (range_with_len l.v ((length l.self.actors.now) - l.v)))
    ≡ laid l.sight o (length l.self.actors.now) l.initial.cells (orders l.self.actors.now)
