use Rattle.std.proofs.Common.{ℕ, ◌+◌, ◌≤◌, List, length, drop, ◌∙◌, arith}
use Rattle.listing.specs.Listing.{link_lines}
use Rattle.listing.proofs.Fitting.{written_more}
use Rattle.listing.proofs.Passes.{next_line, next_length}
use Rattle.listing.proofs.write.put_links.Goals as goal

pub loop-number-preserved : goal.loop-number-preserved
loop-number-preserved c =
    let comes = c.as_bytes.ensures.bytes ∙ c.link_line.ensures in
    let more = next_length c.args.links.now c.loop-number.number _ _ c.loop-number-test.true comes in
    let split = next_line c.args.links.now c.loop-number.number _ _ c.loop-number-test.true comes in
    let long : c.loop-number.at ≤ length c.loop-number.out = omega (arith, c.loop-number.invariant.0) in
    let rest : List ℕ = link_lines (c.loop-number.number + 1) (drop (c.loop-number.number + 1) c.args.links.now) in
    let put = written_more c.loop-number.out c.loop-number.at c.as_bytes.result.now rest long in
    (omega (arith, c.loop-number.invariant.0), cc)
