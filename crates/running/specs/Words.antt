-- The words in which the steps of a run are told.
use Rattle.std.specs.Prelude.{ℕ, List, [], ◌∷◌, codes, decimal}
use Rattle.records.specs.Words.{spaced, refusal_text}
use Rattle.running.specs.declared.Answer.{Answer}
use Rattle.running.specs.declared.Answer.TheVariants.{Open, Done, Told, Refused}
use Rattle.running.specs.declared.Call.{Call}
use Rattle.running.specs.declared.Call.TheVariants.{Start, Finish, Cells}
use Rattle.running.specs.declared.Step.{Step}

abbrev pub call_text : Call → List ℕ
call_text (Start actor) = spaced (codes "start" ∷ decimal actor ∷ [])
call_text (Finish actor) = spaced (codes "finish" ∷ decimal actor ∷ [])
call_text (Cells link) = spaced (codes "cells" ∷ decimal link ∷ [])

abbrev pub answer_text : Answer → List ℕ
answer_text Open = codes "open"
answer_text Done = codes "done"
answer_text (Told c) =
    spaced (codes "holds" ∷ decimal c.held ∷ codes "write" ∷ decimal c.write ∷ codes "read" ∷ decimal c.read ∷ [])
answer_text (Refused f) = refusal_text f

abbrev pub step_text : Step → List ℕ
step_text s = spaced (call_text s.call ∷ answer_text s.answer ∷ [])
