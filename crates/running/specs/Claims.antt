-- What is claimed of every run on a plan, in the words of the subject.
use Rattle.std.specs.Prelude.{◌≡◌, ℕ, ◌+◌, ◌-◌, ◌%◌, ◌<◌, ◌≤◌, true, false, List, [], ◌∷◌, ◌++◌, map, length, Some, None, Ok, Option, slice_index_or}
use Rattle.records.specs.declared.fault.Fault.{Fault}
use Rattle.records.specs.declared.tables.Actor.{Actor}
use Rattle.records.specs.declared.tables.Link.{Link}
use Rattle.waits.specs.Events.{Event, start, finish, starts, finishes, Follows, place}
use Rattle.planning.specs.Planning.{Given, Totals, planned}
use Rattle.guards.specs.Levels.{Level, level}
use Rattle.meaning.specs.Promises.{plan_edges, size_at, waited, waited_edges, Cross, Crossing, Brief, Enough, Fewest}
use Rattle.running.specs.declared.Answer.{Answer}
use Rattle.running.specs.declared.Answer.TheVariants.{Open, Done, Told, Refused}
use Rattle.running.specs.declared.Call.{Call}
use Rattle.running.specs.declared.Call.TheVariants.{Start, Finish, Cells}
use Rattle.running.specs.declared.Cells as cells
use Rattle.running.specs.declared.Step.{Step}
use Rattle.running.specs.Runs.{Standing, cells_answer}
use Rattle.running.specs.Rehearsals.{unasked, carried, carried_to, plan_site, plan_opened}

-- what an accepted call brings about
abbrev pub brings : Call → List Event
brings (Start a) = start a ∷ []
brings (Finish a) = finish a ∷ []
brings (Cells i) = []

abbrev pub brings_if : Answer → Call → List Event
brings_if Open call = []
brings_if Done call = brings call
brings_if (Told c) call = []
brings_if (Refused f) call = []

-- the accepted starts and finishes, in their order, read off the answers
abbrev pub events : List Step → List Event
events [] = []
events (x ∷ xs) = brings_if x.answer x.call ++ events xs

-- what link i holds after these starts and finishes: the values that its sender has begun to make and its receiver has not
-- done with
abbrev pub holds : Given → ℕ → List Event → ℕ
holds d i xs = ((place (plan_edges d) i).delay + starts (place (plan_edges d) i).sender xs) - finishes (place (plan_edges d) i).receiver xs

abbrev pub level_at : List Level → ℕ → Level
level_at row i = slice_index_or row i (level 0 0)

-- the guard of link i has its planned size and, as count, the values that were finished and are not yet taken by a start
pub record GuardsRight (d : Given) (xs : List Event) (row : List Level) (i : ℕ) : Type 0 where
  pub size : (level_at row i).size ≡ size_at d i
  pub count : (level_at row i).count + starts (place (plan_edges d) i).receiver xs
      ≡ (place (plan_edges d) i).delay + finishes (place (plan_edges d) i).sender xs

-- the law of a run whose calls have these answers and that has left these guards
pub record Law (d : Given) (steps : List Step) (row : List Level) : Type 0 where
  -- the accepted starts and finishes are lawful and obey the processors' orders and every link, dropped ones and back links too
  pub follows : Follows d.actors (plan_edges d) (events steps)
  pub guards : (i : ℕ) → i < length (plan_edges d) → waited d i ≡ true → GuardsRight d (events steps) row i
  -- no cross or back link holds more values than its cells
  pub never_overfull : (i : ℕ) → Crossing d i → holds d i (events steps) ≤ size_at d i

-- starts and finishes as calls
abbrev pub call : Event → Step
call (start a) = unasked (Start a)
call (finish a) = unasked (Finish a)

-- some starts and finishes, all of them accepted, after which link i holds as many values as it has cells
pub record Fills (d : Given) (t : Totals) (now : Standing) (i : ℕ) : Type 0 where
  pub list : List Event
  pub all_accepted : events (carried (plan_site d t) now (map call list)) ≡ list
  pub full : holds d i list ≡ size_at d i

-- the buffer of link i by the starts and finishes so far
abbrev pub buffer_at : Given → List Event → ℕ → cells.Cells
buffer_at d xs i = record {
  held = holds d i xs;
  write = ((place (plan_edges d) i).delay + starts (place (plan_edges d) i).sender xs) % size_at d i;
  read = starts (place (plan_edges d) i).receiver xs % size_at d i;
}

-- the cells question about link i tells it
abbrev pub TellsBuffer : Given → Totals → Standing → List Event → ℕ → Type 0
TellsBuffer d t now xs i = cells_answer (plan_site d t) now i ≡ Ok (buffer_at d xs i)

-- a run that is not opened soundly refuses every call, and leaves the row as it was
pub record UnsoundRun (d : Given) (t : Totals) (row : List Level) (f : Fault) (now : Standing) : Type 0 where
  pub refuses : (steps : List Step) → carried (plan_site d t) now steps ≡ map (λ x. record { call = x.call; answer = Refused f }) steps
  pub stands : (steps : List Step) → (carried_to (plan_site d t) now steps).row ≡ row

-- what holds of every run that stands soundly at first, whatever it is asked
pub record SoundRun (d : Given) (t : Totals) (row : List Level) (now : Standing) : Type 0 where
  pub law : (steps : List Step) → Law d (carried (plan_site d t) now steps) (carried_to (plan_site d t) now steps).row
  -- the cells question answers what the starts and finishes say
  pub cells : (steps : List Step) (i : ℕ) → Cross d i
      → TellsBuffer d t (carried_to (plan_site d t) now steps) (events (carried (plan_site d t) now steps)) i
  -- so does its answer, after any calls
  pub told : (steps : List Step) (i : ℕ) → Cross d i → carried (plan_site d t) now (steps ++ (unasked (Cells i) ∷ []))
      ≡ carried (plan_site d t) now steps ++ (record { call = Cells i; answer = Told (buffer_at d (events (carried (plan_site d t) now steps)) i) } ∷ [])
  -- the guards of dropped and local links, and those past the links, stand
  pub others : (steps : List Step) (i : ℕ) → (i < length (plan_edges d) → waited d i ≡ false) → level_at (carried_to (plan_site d t) now steps).row i ≡ level_at row i
  -- whatever it was asked before, it accepts every list of its actors' starts and finishes that, after the accepted ones,
  -- follows the kept and back links, with at most 1,000,000,000 starts of each actor
  pub accepts : (steps : List Step) (xs : List Event) → Follows d.actors (waited_edges d) (events (carried (plan_site d t) now steps) ++ xs)
      → Brief d 1000000000 (events (carried (plan_site d t) now steps) ++ xs)
      → events (carried (plan_site d t) now (steps ++ map call xs)) ≡ events (carried (plan_site d t) now steps) ++ xs
  -- each cross or back link can be filled exactly
  pub fills : (i : ℕ) → Crossing d i → Fills d t now i

-- a plan opens soundly with every kind of guard that can keep 65,000 values, if the row is long enough
abbrev pub Opens : Given → Totals → Type 0
Opens d t = (largest : ℕ) (row : List Level) → 65000 ≤ largest → t.given + t.back ≤ length row → (plan_opened largest d t row).fault ≡ None

-- the main claim about an accepted drawing: over every kind of guard, by its largest size, every row and every run
pub record Claim (d : Given) (t : Totals) : Type 0 where
  -- there are such runs
  pub opens : Opens d t
  pub every_run : (largest : ℕ) (row : List Level) → (plan_opened largest d t row).fault ≡ None → SoundRun d t row (plan_opened largest d t row)
  pub unsound : (largest : ℕ) (row : List Level) (f : Fault) → (plan_opened largest d t row).fault ≡ Some f → UnsoundRun d t row f (plan_opened largest d t row)
  -- the kept and back links enforce the waits of all links, and every choice of links that does so has at least as many
  pub enough : Enough d
  pub fewest : Fewest d

-- a run that is opened on tables as planning left them, with such a kind and such a row, has no fault
abbrev pub OpensPlans : ℕ → Totals → List Actor → List Link → ℕ → Option Fault → Type 0
OpensPlans largest t actors links places fault = (d : Given) → (planned d).answer ≡ Ok t → actors ≡ d.actors → links ≡ (planned d).links
    → 65000 ≤ largest → t.given + t.back ≤ places → fault ≡ None
