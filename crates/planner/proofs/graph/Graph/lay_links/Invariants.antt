use Rattle.std.proofs.Common.{length, ◌≡◌, map, drop}
use Rattle.records.specs.Tables.{link_edge}
use Rattle.planning.specs.Tables.{laid}
use Rattle.planner.specs.Skipping.{but}
use Rattle.planner.proofs.graph.Graph.lay_links.Given as goal

abbrev pub invariant-loop-j : goal.invariant-loop-j
invariant-loop-j g l =
    let o = g.T.Algebra.ops in
    laid l.sight o (length l.self.actors.now) l.cells (but l.skip l.j (map link_edge (drop l.j l.self.links.now)))
    ≡ laid l.sight o (length l.self.actors.now) l.initial.cells (but l.skip 0 (map link_edge l.self.links.now))
