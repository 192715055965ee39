-- The lines of a text.
use Rattle.std.specs.Prelude.{◌≡◌, ℕ, ◌+◌, cond, List, [], ◌∷◌, Option, MatchOption, ◌==◌}
use Rattle.std.specs.Borrow.{Bor}
use Rattle.reader.specs.declared.lines.Lines.{Lines}

-- a byte put before the first of some parts
abbrev pub onto : ℕ → List (List ℕ) → List (List ℕ)
onto b [] = (b ∷ []) ∷ []
onto b (l ∷ ls) = (b ∷ l) ∷ ls

-- a text cut after each line feed: each line keeps its own, and the last may have none
abbrev pub cut : List ℕ → List (List ℕ)
cut [] = []
cut (b ∷ bs) = cond (b == 10) ((b ∷ []) ∷ cut bs) (onto b (cut bs))

-- the text that is left to be taken, its lines, and the number of the first of them
abbrev pub text_left : Lines → List ℕ
text_left l = l.rest.now

abbrev pub lines_left : Lines → List (List ℕ)
lines_left l = cut (text_left l)

abbrev pub number_next : Lines → ℕ
number_next l = l.number

-- the first of the lines is given with its number, and the others are left; at the end none is
abbrev pub TakesLine : Lines → Option (ℕ × Bor (List ℕ)) → Lines → Type 0
TakesLine s r t =
    MatchOption r ((lines_left s ≡ []) × (lines_left t ≡ []) × (number_next t ≡ number_next s))
    (λ x. (lines_left s ≡ x.1.now ∷ lines_left t) × (x.0 ≡ number_next s) × (number_next t ≡ number_next s + 1))
