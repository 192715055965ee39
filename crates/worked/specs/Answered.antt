-- What calls in a run of a text's plan are answered.
use Rattle.std.specs.Prelude.{ℕ, false, List, [], ◌∷◌, map, length, replicate, Ok, Err, Result}
use Rattle.records.specs.declared.fault.Fault.{Fault}
use Rattle.records.specs.Tables.{no_link}
use Rattle.paths.specs.Models.{no_path, reach}
use Rattle.reader.specs.Reading.{Drawing, reading, links_after}
use Rattle.planning.specs.Planning.{drawing}
use Rattle.guards.specs.Levels.{level}
use Rattle.running.specs.declared.Call.{Call}
use Rattle.running.specs.Rehearsals.{answer_values, rehearsed, unasked}

-- the calls in a run of the text's plan, with pointer guards, and their answers
abbrev pub answers_in : Result Drawing Fault → List Call → List (ℕ × List ℕ)
answers_in (Ok d) calls =
    map (λ x. answer_values x.answer)
    (rehearsed 65534 (drawing d.actors (links_after (Ok d) (replicate 271 no_link)) (length d.links) d.lead (replicate 4096 no_path) (replicate 4096 (reach false)))
    (replicate 271 (level 0 1)) (map unasked calls)).steps
answers_in (Err f) calls = []

unfoldable pub answers_to : List ℕ → List Call → List (ℕ × List ℕ)
answers_to text calls = answers_in (reading text 64 271) calls

-- accepted, or refused by the run with this number at this place
abbrev pub done : ℕ × List ℕ
done = (1, [])

abbrev pub refused : ℕ → ℕ → ℕ × List ℕ
refused number place = (3, number ∷ 5 ∷ place ∷ [])
