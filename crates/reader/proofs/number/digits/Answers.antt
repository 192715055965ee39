-- Each turn reads one digit.
use Rattle.std.proofs.Common.{◌≡◌, true, get_or, sym, ◌∙◌, arith, rules}
use Rattle.std.specs.Char.{is_ascii_digit}
use Rattle.reader.proofs.Digits.{digit_step, digit_stop, digit_end, tens_more, tens_fit}
use Rattle.reader.proofs.number.digits.Goals as goal

pub returns-then-not-is_ascii_digit : goal.returns-then-not-is_ascii_digit
returns-then-not-is_ascii_digit c = search (rules, digit_stop)

digit : (c : goal.After-from) → is_ascii_digit (get_or c.args.word.now c.loop-b.b-index 0) ≡ true
digit c = search rules

pub overflow_mul-n : goal.overflow_mul-n
overflow_mul-n c =
    let d = tens_fit c.loop-b.n 0 48 c.loop-b.b-index c.loop-b.invariant.0 (omega arith) (search rules) (omega arith) in
    omega arith

pub overflow_add-n : goal.overflow_add-n
overflow_add-n c =
    let d = tens_fit _ _ _ _ c.loop-b.invariant.0 c.from.ensures (digit c) (omega arith) in
    omega arith

pub loop-b-preserved : goal.loop-b-preserved
loop-b-preserved c = (
  tens_more _ _ _ _ c.loop-b.invariant.0 c.from.ensures (digit c),
  sym (digit_step _ _ _ _ c.loop-b-test.true c.from.ensures (digit c)) ∙ c.loop-b.invariant.1,
)

pub returns : goal.returns
returns c = search (rules, digit_end)
