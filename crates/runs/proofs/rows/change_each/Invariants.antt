use Rattle.std.proofs.Common.{take}
use Rattle.runs.specs.Changes.{Changed}
use Rattle.runs.proofs.rows.change_each.Given as goal

abbrev pub invariant-loop-i : goal.invariant-loop-i
invariant-loop-i g l = Changed (goal.F-post g l.change) (take l.i l.links) l.initial.row l.row
