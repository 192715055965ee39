use Rattle.std.proofs.Common.{◌≡◌}
use Rattle.paths.specs.Closure.{rounds}
use Rattle.paths.proofs.closure.close.Given as goal

abbrev pub invariant-loop-k : goal.invariant-loop-k
invariant-loop-k g l = l.cells ≡ rounds g.T.Algebra.ops l.n l.k l.initial.cells
