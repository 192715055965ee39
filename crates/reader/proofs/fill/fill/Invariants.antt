-- The tables hold what the lines so far write, and the lines that are left have room.
use Rattle.reader.specs.Lines.{cut}
use Rattle.reader.proofs.Filling.{Filled}
use Rattle.reader.proofs.fill.fill.Given as goal

abbrev pub invariant-loop-line : goal.invariant-loop-line
invariant-loop-line l =
    (goal.iterator-loop-line).can_next l.line-iterator
    × (goal.iterator-loop-line).is_finite l.line-iterator
    × Filled l.text l.initial.actors l.initial.links l.line-iterator.number (cut l.line-iterator.rest.now) l.counts l.actors l.links
