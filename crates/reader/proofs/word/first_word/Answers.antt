-- The first word ends at the first space.
use Rattle.std.proofs.Common.{◌≡◌, ◌+◌, ◌-◌, [], ◌∷◌, length, take, drop, MatchOption, rules, tests}
use Rattle.std.proofs.lemmas.Iterator.{YieldsList-from_slice}
use Rattle.std.proofs.lemmas.Iterator.Search.{position_from_yields_List}
use Rattle.reader.specs.Words.{split}
use Rattle.reader.proofs.Words.{is_space, first_space}
use Rattle.reader.proofs.word.first_word.Goals as goal
use Rattle.reader.proofs.word.first_word.Goals.{After-position}

parts : (c : After-position)
    → MatchOption c.position.result (split c.args.text.now ≡ c.args.text.now ∷ [])
    (λ i. split c.args.text.now ≡ take i c.args.text.now ∷ split (take (length c.args.text.now - (i + 1)) (drop (i + 1) c.args.text.now)))
parts c =
    first_space c.args.text.now c.position.result
    (position_from_yields_List is_space _ _ c.position.result c.position.ensures.ran (YieldsList-from_slice c.args.text.now cc)
    (λ x b q k. search (rules, tests)))

pub returns-in-Some : goal.returns-in-Some
returns-in-Some c = let p = parts (goal.at.returns-in-Some c).After-position in search rules

pub returns-in-None : goal.returns-in-None
returns-in-None c = let p = parts (goal.at.returns-in-None c).After-position in search rules
