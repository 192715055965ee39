use Rattle.std.proofs.Common.{arith}
use Rattle.planner.proofs.Rewriting.{sized_more}
use Rattle.planner.proofs.sizes.size_links.Goals as goal

pub loop-link-preserved : goal.loop-link-preserved
loop-link-preserved c =
    sized_more c.args.delays.now.n c.args.delays.now.cells.now (c.args.links.now) c.loop-link.link-items c.loop-link.link-index c.loop-link-test.true c.loop-link.invariant
    c.size_of-link.result (omega arith) c.size_of-link.ensures
