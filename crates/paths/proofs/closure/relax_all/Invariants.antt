use Rattle.paths.proofs.Rounds.{RowsDone}
use Rattle.paths.proofs.closure.relax_all.Given as goal

abbrev pub invariant-loop-i : goal.invariant-loop-i
invariant-loop-i g l = RowsDone g.T.Algebra.ops l.n l.k l.initial.cells l.i l.cells
