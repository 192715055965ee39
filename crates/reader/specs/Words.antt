-- The words of a line, and the line that they make.
use Rattle.std.specs.Prelude.{ℕ, ◌-◌, Bool, cond, ◌&&◌, List, [], ◌∷◌, length, map, take, drop, Some, None, Option, Ok, Err, Result, ◌==◌, nat_le, slice_index}
use Rattle.std.specs.Borrow.{Bor}
use Rattle.records.specs.Faults.{fault}
use Rattle.records.specs.declared.fault.Fault.{Fault}
use Rattle.records.specs.declared.fault.Layer.TheVariants.{Text}
use Rattle.records.specs.declared.refusal.Refusal.TheVariants as refusal
use Rattle.reader.specs.Lines.{onto}
use Rattle.reader.specs.declared.word.Word.{Word}
use Rattle.reader.specs.declared.word.Words.{Words}
use Rattle.reader.specs.declared.line.Line.{Line}
use Rattle.reader.specs.declared.line.Line.TheVariants.{Lead, Actor, Link}

-- what stands between single spaces: k spaces part k + 1 words
abbrev pub split : List ℕ → List (List ℕ)
split [] = [] ∷ []
split (b ∷ bs) = cond (b == 32) ([] ∷ split bs) (onto b (split bs))

-- a word with its line
pub record Part : Type 0 where
  pub bytes : List ℕ
  pub line : ℕ

abbrev pub part : ℕ → List ℕ → Part
part n bs = record { bytes = bs; line = n }

-- a line by its letter, with its words
pub data Parsed : Type 0 where
  lead : Part → Parsed
  actor : Part → Part → Parsed
  link : Part → Part → Part → Parsed

-- a line that is not made as its letter asks
abbrev pub misshaped : ℕ → Fault
misshaped n = fault refusal.Misshaped Text n

abbrev pub lead_of : ℕ → List Part → Result Parsed Fault
lead_of n [] = Err (misshaped n)
lead_of n (a ∷ []) = Ok (lead a)
lead_of n (a ∷ b ∷ more) = Err (misshaped n)

abbrev pub actor_of : ℕ → List Part → Result Parsed Fault
actor_of n [] = Err (misshaped n)
actor_of n (a ∷ []) = Err (misshaped n)
actor_of n (a ∷ b ∷ []) = Ok (actor a b)
actor_of n (a ∷ b ∷ c ∷ more) = Err (misshaped n)

abbrev pub link_of : ℕ → List Part → Result Parsed Fault
link_of n [] = Err (misshaped n)
link_of n (a ∷ []) = Err (misshaped n)
link_of n (a ∷ b ∷ []) = Err (misshaped n)
link_of n (a ∷ b ∷ c ∷ []) = Ok (link a b c)
link_of n (a ∷ b ∷ c ∷ d ∷ more) = Err (misshaped n)

-- the line that a letter and words make
abbrev pub made_of : ℕ → ℕ → List Part → Result Parsed Fault
made_of n letter words =
    cond (letter == 82) (lead_of n words)
    (cond (letter == 65) (actor_of n words) (cond (letter == 76) (link_of n words) (Err (misshaped n))))

-- a letter first, then a space, and a line feed at the end
abbrev pub framed : List ℕ → Bool
framed raw = nat_le 3 (length raw) && (slice_index raw 1 == 32 && slice_index raw (length raw - 1) == 10)

-- what stands between the letter's space and the line feed
abbrev pub inside : List ℕ → List ℕ
inside raw = take (length raw - 1 - 2) (drop 2 raw)

-- the words of a text in the line n
abbrev pub words_in : ℕ → List ℕ → List Part
words_in n text = map (part n) (split text)

-- the line with the number n, from its bytes
unfoldable pub line_of : ℕ → List ℕ → Result Parsed Fault
line_of n raw = cond (framed raw) (made_of n (slice_index raw 0) (words_in n (inside raw))) (Err (misshaped n))

-- what the code's values hold
abbrev pub over : {X Y : Type 0} → (X → Y) → Result X Fault → Result Y Fault
over f (Ok x) = Ok (f x)
over f (Err e) = Err e

abbrev pub held : Word → Part
held w = part w.line w.bytes.now

abbrev pub held_line : Line → Parsed
held_line (Lead a) = lead (held a)
held_line (Actor a b) = actor (held a) (held b)
held_line (Link a b c) = link (held a) (held b) (held c)

-- the words of a rest that may be there, and those that are left to be taken
abbrev pub split_rest : Option (Bor (List ℕ)) → List (List ℕ)
split_rest None = []
split_rest (Some text) = split text.now

abbrev pub words_left : Words → List Part
words_left w = map (part w.line) (split_rest w.rest)
