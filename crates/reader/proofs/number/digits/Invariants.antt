-- The digits that are left go on from the number so far.
use Rattle.std.proofs.Common.{◌≡◌, ◌^◌, ◌<◌, drop}
use Rattle.reader.specs.Numbers.{digits_from}
use Rattle.reader.proofs.number.digits.Given as goal

abbrev pub invariant-loop-b : goal.invariant-loop-b
invariant-loop-b l =
    (l.n < 10 ^ l.b-index)
    × (digits_from l.n (drop l.b-index l.word) ≡ digits_from 0 l.word)
