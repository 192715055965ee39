-- What the lines of calls say: each a word, a number and a line feed.
use Rattle.std.specs.Prelude.{ℕ, ◌+◌, ◌-◌, cond, List, [], ◌∷◌, ◌++◌, length, take, drop, is_some, Some, None, codes, Option}
use Rattle.std.specs.Option.{option_map}
use Rattle.std.specs.Str.{bytes_eq}
use Rattle.reader.specs.Numbers.{written_number}
use Rattle.running.specs.declared.Answer.TheVariants.{Open}
use Rattle.running.specs.declared.Call.{Call}
use Rattle.running.specs.declared.Call.TheVariants.{Start, Finish, Cells}
use Rattle.running.specs.declared.Step.{Step}

-- what follows a word, if the line begins with it
abbrev pub after : List ℕ → List ℕ → Option (List ℕ)
after word line = cond (bytes_eq (take (length word) line) word) (Some (drop (length word) line)) None

-- what stands before the line feed at the end
abbrev pub before_feed : List ℕ → Option (List ℕ)
before_feed line = cond (bytes_eq (drop (length line - 1) line) (10 ∷ [])) (Some (take (length line - 1) line)) None

abbrev pub and_then : {A B : Type 0} → Option A → (A → Option B) → Option B
and_then None f = None
and_then (Some x) f = f x

-- what stands between a word and the line feed at the end
abbrev pub between : List ℕ → List ℕ → Option (List ℕ)
between word line = and_then (after word line) before_feed

-- the call of a number that may be there; without one, the other
abbrev pub or_else : Option (List ℕ) → (ℕ → Call) → Option Call → Option Call
or_else None call other = other
or_else (Some word) call other = option_map call (written_number word)

-- the call that a line makes
abbrev pub call_of : List ℕ → Option Call
call_of line =
    or_else (between (codes "start ") line) Start
    (or_else (between (codes "finish ") line) Finish (or_else (between (codes "cells ") line) Cells None))

-- the number of the first line that makes no call, where the first line has the number n
abbrev pub first_bad : ℕ → List (List ℕ) → Option ℕ
first_bad n [] = None
first_bad n (l ∷ ls) = cond (is_some (call_of l)) (first_bad (n + 1) ls) (Some n)

-- a call that may be there, not answered yet
abbrev pub open_step : Option Call → List Step
open_step None = []
open_step (Some call) = record { call = call; answer = Open } ∷ []

-- the calls of the lines that make one
abbrev pub steps_of : List (List ℕ) → List Step
steps_of [] = []
steps_of (l ∷ ls) = open_step (call_of l) ++ steps_of ls
