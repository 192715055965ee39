-- What is left of a text is no longer than it was.
use Rattle.std.proofs.Common.{◌≡◌, ℕ, ◌+◌, ◌<◌, ◌≤◌, length, drop, ap, arith, length-drop}
use Rattle.std.specs.List.{position_or_len}
use Rattle.words.specs.Words.{ends_word, after_word, text_left}
use Rattle.words.specs.declared.Words.{Words}

pub part_shorter : (n : ℕ) (text left : Words) → text_left left ≡ drop n (text_left text) → length (text_left left) ≤ length (text_left text)
part_shorter n text left e = omega (arith, ap length e, length-drop n (text_left text))

pub word_no_longer : (text left : Words) → text_left left ≡ after_word (text_left text) → length (text_left left) ≤ length (text_left text)
word_no_longer text left e = part_shorter (position_or_len ends_word (text_left text) + 1) text left e

pub word_shorter : (text left : Words) → 0 < length (text_left text) → text_left left ≡ after_word (text_left text)
    → length (text_left left) < length (text_left text)
word_shorter text left h e = omega (arith, ap length e, length-drop (position_or_len ends_word (text_left text) + 1) (text_left text))
