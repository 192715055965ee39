use Rattle.std.proofs.Common.{ℕ, ◌<◌, length, arith, rules}
use Rattle.words.specs.Words.{text_left}
use Rattle.words.proofs.Shorter.{part_shorter, word_no_longer, word_shorter}
use Rattle.trials.proofs.stored.StoredRunsIterator.next.Goals as goal

-- a stored run takes a word at least
pub returns-clause-goes : goal.returns-clause-goes
returns-clause-goes c =
    let some : 0 < length (text_left c.args.self.now.file) = search rules in
    let shorter : length (text_left c.part-end.new.self) < length (text_left c.args.self.now.file) = omega (
      arith,
      word_shorter c.args.self.now.file c.word-run.new.self some c.word-run.ensures.rest,
      word_no_longer c.word-run.new.self c.word-name.new.self c.word-name.ensures.rest,
      word_no_longer c.word-name.new.self c.word.new.self c.word.ensures.rest,
      word_no_longer c.word.new.self c.number-actors.new.self c.number-actors.ensures.rest,
      word_no_longer c.number-actors.new.self c.number-links.new.self c.number-links.ensures.rest,
      word_no_longer c.number-links.new.self c.number-row.new.self c.number-row.ensures.rest,
      word_no_longer c.number-row.new.self c.number-text_count.new.self c.number-text_count.ensures.rest,
      word_no_longer c.number-text_count.new.self c.number-changes_count.new.self c.number-changes_count.ensures.rest,
      word_no_longer c.number-changes_count.new.self c.number-calls_count.new.self c.number-calls_count.ensures.rest,
      word_no_longer c.number-calls_count.new.self c.number-expected_count.new.self c.number-expected_count.ensures.rest,
      part_shorter c.number-text_count.result c.number-expected_count.new.self c.part-text.new.self c.part-text.ensures.rest,
      part_shorter c.number-changes_count.result c.part-text.new.self c.part-changes.new.self c.part-changes.ensures.rest,
      part_shorter c.number-calls_count.result c.part-changes.new.self c.part-calls.new.self c.part-calls.ensures.rest,
      part_shorter c.number-expected_count.result c.part-calls.new.self c.part-expected.new.self c.part-expected.ensures.rest,
      part_shorter 1 c.part-expected.new.self c.part-end.new.self c.part-end.ensures.rest,
    ) in
    record { on = λ _. (tt, tt, shorter); keeps = tt; rests = λ _. tt }
