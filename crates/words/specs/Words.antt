-- Words, and the numbers that they write.
use Rattle.std.specs.Prelude.{ℕ, ◌+◌, ◌-◌, ◌*◌, min, Bool, ◌||◌, List, fold, take, drop, ◌==◌}
use Rattle.std.specs.List.{position_or_len}
use Rattle.words.specs.declared.Words.{Words}

-- the bytes that are left
abbrev pub text_left : Words → List ℕ
text_left w = w.rest.now

-- a space or a line feed
abbrev pub ends_word : ℕ → Bool
ends_word b = b == 32 || b == 10

-- the bytes before the first space or line feed
abbrev pub word_of : List ℕ → List ℕ
word_of text = take (position_or_len ends_word text) text

-- the bytes after it
abbrev pub after_word : List ℕ → List ℕ
after_word text = drop (position_or_len ends_word text + 1) text

-- no number is above the largest of 64 bits
abbrev pub at_most : ℕ → ℕ
at_most n = min n 18446744073709551615

-- the number so far with one digit more; a byte below 0 counts as 0
abbrev pub with_digit : ℕ → ℕ → ℕ
with_digit n b = at_most (at_most (n * 10) + (b - 48))

abbrev pub number_of : List ℕ → ℕ
number_of word = fold with_digit 0 word
