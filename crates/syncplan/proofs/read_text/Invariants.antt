use Rattle.std.proofs.Common.{◌≤◌, length}
use Rattle.syncplan.proofs.read_text.Given as goal

abbrev pub invariant-loop : goal.invariant-loop
invariant-loop g l = l.count ≤ length l.text
