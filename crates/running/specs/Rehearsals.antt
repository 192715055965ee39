-- A list of calls carried out, and a drawing planned, opened, run and closed.
use Rattle.std.specs.Prelude.{ℕ, List, [], ◌∷◌, Ok, Err, Result}
use Rattle.records.specs.declared.fault.Fault.{Fault}
use Rattle.records.specs.Faults.{refusal_number, refusal_values}
use Rattle.planning.specs.Planning.{Given, Totals, planned}
use Rattle.guards.specs.Levels.{Level}
use Rattle.running.specs.declared.Act.TheVariants.{Start as Starts, Finish as Finishes}
use Rattle.running.specs.declared.Answer.{Answer}
use Rattle.running.specs.declared.Answer.TheVariants.{Open, Done, Told, Refused}
use Rattle.running.specs.declared.Call.{Call}
use Rattle.running.specs.declared.Call.TheVariants.{Start, Finish, Cells}
use Rattle.running.specs.declared.Cells as cells
use Rattle.running.specs.declared.Step.{Step}
use Rattle.running.specs.Runs.{Site, Standing, site_of, opened, act_check, after_act, cells_answer, cells_values}

abbrev pub done_or_refused : Result Unit Fault → Answer
done_or_refused (Ok _) = Done
done_or_refused (Err f) = Refused f

abbrev pub told_or_refused : Result cells.Cells Fault → Answer
told_or_refused (Ok c) = Told c
told_or_refused (Err f) = Refused f

-- what a call answers
abbrev pub answer_to : Site → Standing → Call → Answer
answer_to s now (Start a) = done_or_refused (act_check s now Starts a)
answer_to s now (Finish a) = done_or_refused (act_check s now Finishes a)
answer_to s now (Cells i) = told_or_refused (cells_answer s now i)

-- how the run stands afterwards
abbrev pub after_call : Site → Standing → Call → Standing
after_call s now (Start a) = after_act s now Starts a
after_call s now (Finish a) = after_act s now Finishes a
after_call s now (Cells i) = now

-- an answer by a number and its values: 0 not asked, 1 accepted, 2 with the values of a buffer, 3 with a refusal
abbrev pub answer_values : Answer → ℕ × List ℕ
answer_values Open = (0, [])
answer_values Done = (1, [])
answer_values (Told c) = (2, cells_values c)
answer_values (Refused f) = (3, refusal_number f.refusal ∷ refusal_values f)

-- a call that was not made yet
abbrev pub unasked : Call → Step
unasked c = record { call = c; answer = Open }

abbrev pub answered : Site → Standing → Step → Step
answered s now x = record { call = x.call; answer = answer_to s now x.call }

-- the calls, each with its answer
abbrev pub carried : Site → Standing → List Step → List Step
carried s now [] = []
carried s now (x ∷ xs) = answered s now x ∷ carried s (after_call s now x.call) xs

-- how the run stands after them
abbrev pub carried_to : Site → Standing → List Step → Standing
carried_to s now [] = now
carried_to s now (x ∷ xs) = carried_to s (after_call s now x.call) xs

-- what a run leaves: the answers, and the guards
pub record Rehearsed : Type 0 where
  pub steps : List Step
  pub row : List Level

abbrev pub rehearsed_from : Site → Standing → List Step → Rehearsed
rehearsed_from s now steps = record { steps = carried s now steps; row = (carried_to s now steps).row }

-- what a plan's run sees, and how it stands at first
abbrev pub plan_site : Given → Totals → Site
plan_site d t = site_of t d.actors (planned d).links

abbrev pub plan_opened : ℕ → Given → Totals → List Level → Standing
plan_opened largest d t row = opened largest t d.actors (planned d).links row

abbrev pub rehearsed_if : ℕ → Given → Result Totals Fault → List Level → List Step → Rehearsed
rehearsed_if largest d (Ok t) row steps = rehearsed_from (plan_site d t) (plan_opened largest d t row) steps
rehearsed_if largest d (Err f) row steps = record { steps = steps; row = row }

-- a drawing planned and run with guards of this largest size; a refusal of planning leaves guards and calls as they are
unfoldable pub rehearsed : ℕ → Given → List Level → List Step → Rehearsed
rehearsed largest d row steps = rehearsed_if largest d (planned d).answer row steps
