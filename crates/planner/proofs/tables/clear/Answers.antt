use Rattle.std.proofs.Common.{rules}
use Rattle.planner.proofs.Laying.{clear_more}
use Rattle.planner.proofs.tables.clear.Goals as goal

pub loop-cell-preserved : goal.loop-cell-preserved
loop-cell-preserved g c = search (rules, clear_more)
