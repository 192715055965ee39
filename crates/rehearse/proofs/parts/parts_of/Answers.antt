-- The lines up to the empty one are taken, and what is left begins as far on as that.
use Rattle.std.proofs.Common.{length, ap, arith}
use Rattle.rehearse.proofs.Taking.{then_taken}
use Rattle.rehearse.proofs.parts.parts_of.Goals as goal

pub returns : goal.returns
returns c =
    let ran = c.any.ensures.ran in
    let left = then_taken c.of-calls.result ran.0 ran.1 c.any.new.self ran.3 in
    omega (arith, left, c.of-calls.ensures.number, ap length c.of-calls.ensures.text)
