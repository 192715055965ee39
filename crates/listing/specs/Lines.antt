-- The lines of a listing.
use Rattle.std.specs.Prelude.{ℕ, cond, List, [], ◌∷◌, ◌++◌, codes, decimal, ◌==◌}
use Rattle.records.specs.declared.fault.Fault.{Fault}
use Rattle.records.specs.declared.tables.Link.{Link}
use Rattle.records.specs.Words.{refusal_text}

-- a number in decimal, after a space
abbrev pub field : ℕ → List ℕ
field n = 32 ∷ decimal n

-- the word of a link's mark
abbrev pub mark_word : ℕ → List ℕ
mark_word mark =
    cond (mark == 0) (codes "drop") (cond (mark == 1) (codes "kept") (cond (mark == 2) (codes "home") (codes "back")))

-- the first line: how many actors, given links and back links
unfoldable pub head_line : ℕ → ℕ → ℕ → List ℕ
head_line actors given back =
    codes "actors" ++ field actors ++ codes " links" ++ field given ++ codes " returns" ++ field back ++ 10 ∷ []

-- the line of the link with this number
unfoldable pub link_line : ℕ → Link → List ℕ
link_line number l =
    mark_word l.mark ++ field number ++ field l.sender ++ field l.receiver ++ field l.delay ++ field l.size ++ 10 ∷ []

-- the last line: the costs before and after planning
unfoldable pub cost_line : ℕ → ℕ → List ℕ
cost_line before after = codes "cost" ++ field before ++ field after ++ 10 ∷ []

-- the one line of a refusal
unfoldable pub refusal_line : Fault → List ℕ
refusal_line f = refusal_text f ++ 10 ∷ []
