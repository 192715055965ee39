-- The lines that are left go on from the check so far.
use Rattle.std.proofs.Common.{◌≡◌}
use Rattle.reader.specs.Lines.{cut}
use Rattle.reader.specs.Reading.{over_lines, passed}
use Rattle.reader.proofs.check.pass.Given as goal

abbrev pub invariant-loop-line : goal.invariant-loop-line
invariant-loop-line g l =
    (goal.iterator-loop-line g).can_next l.line-iterator
    × (goal.iterator-loop-line g).is_finite l.line-iterator
    × (over_lines (g.C.Check.step_of) l.line-iterator.number l.check (cut l.line-iterator.rest.now) ≡ passed g.C.Check.step_of l.initial.check l.text)
