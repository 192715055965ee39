use Rattle.std.proofs.Common.{ℕ, ◌<◌, length, arith, rules}
use Rattle.words.specs.Words.{text_left}
use Rattle.words.proofs.Shorter.{part_shorter, word_no_longer, word_shorter}
use Rattle.cases.proofs.blocks.CasesIterator.next.Goals as goal

-- a case takes a word at least
pub returns-clause-goes : goal.returns-clause-goes
returns-clause-goes c =
    let some : 0 < length (text_left c.args.self.now.file) = search rules in
    let shorter : length (text_left c.part-end.new.self) < length (text_left c.args.self.now.file) = omega (
      arith,
      word_shorter c.args.self.now.file c.word.new.self some c.word.ensures.rest,
      word_no_longer c.word.new.self c.word-name.new.self c.word-name.ensures.rest,
      word_no_longer c.word-name.new.self c.number-actors.new.self c.number-actors.ensures.rest,
      word_no_longer c.number-actors.new.self c.number-links.new.self c.number-links.ensures.rest,
      word_no_longer c.number-links.new.self c.number-delays.new.self c.number-delays.ensures.rest,
      word_no_longer c.number-delays.new.self c.number-reach.new.self c.number-reach.ensures.rest,
      word_no_longer c.number-reach.new.self c.number-out.new.self c.number-out.ensures.rest,
      word_no_longer c.number-out.new.self c.number-text_count.new.self c.number-text_count.ensures.rest,
      word_no_longer c.number-text_count.new.self c.number-expected_count.new.self c.number-expected_count.ensures.rest,
      part_shorter c.number-text_count.result c.number-expected_count.new.self c.part-text.new.self c.part-text.ensures.rest,
      part_shorter c.number-expected_count.result c.part-text.new.self c.part-expected.new.self c.part-expected.ensures.rest,
      part_shorter 1 c.part-expected.new.self c.part-end.new.self c.part-end.ensures.rest,
    ) in
    record { on = λ _. (tt, tt, shorter); keeps = tt; rests = λ _. tt }
