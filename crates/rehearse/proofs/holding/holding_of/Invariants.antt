-- What was counted so far is what there is among the steps so far.
use Rattle.std.proofs.Common.{◌≡◌, ◌+◌, take}
use Rattle.rehearse.specs.Holding.{is_start, is_finish, count, Most}
use Rattle.rehearse.proofs.holding.holding_of.Given as goal

abbrev pub invariant-loop-step : goal.invariant-loop-step
invariant-loop-step l =
    (l.made ≡ l.link.delay + count (is_start l.link.sender) (take l.step-index l.steps))
    × (l.used ≡ count (is_finish l.link.receiver) (take l.step-index l.steps))
    × Most l.link (take l.step-index l.steps) l.most
