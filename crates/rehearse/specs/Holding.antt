-- What a link holds after some steps of a run.
use Rattle.std.specs.Prelude.{◌≡◌, ℕ, ◌+◌, ◌-◌, ◌≤◌, Bool, false, cond, List, [], ◌∷◌, length, take, ◌==◌}
use Rattle.records.specs.declared.tables.Link.{Link}
use Rattle.running.specs.declared.Answer.{Answer}
use Rattle.running.specs.declared.Answer.TheVariants.{Open, Done, Told, Refused}
use Rattle.running.specs.declared.Call.{Call}
use Rattle.running.specs.declared.Call.TheVariants.{Start, Finish, Cells}
use Rattle.running.specs.declared.Step.{Step}

-- the yes or no of an accepted call
abbrev pub if_done : Answer → Bool → Bool
if_done Open b = false
if_done Done b = b
if_done (Told c) b = false
if_done (Refused f) b = false

abbrev pub same_call : Call → Call → Bool
same_call (Start a) (Start b) = a == b
same_call (Finish a) (Finish b) = a == b
same_call (Cells a) (Cells b) = a == b
same_call (Start a) (Finish b) = false
same_call (Start a) (Cells b) = false
same_call (Finish a) (Start b) = false
same_call (Finish a) (Cells b) = false
same_call (Cells a) (Start b) = false
same_call (Cells a) (Finish b) = false

-- the step is this call, accepted
abbrev pub is_accepted : Call → Step → Bool
is_accepted call s = if_done s.answer (same_call s.call call)

-- the step is a start of the actor that was accepted
abbrev pub is_start : ℕ → Step → Bool
is_start actor s = is_accepted (Start actor) s

-- the step is a finish of the actor that was accepted
abbrev pub is_finish : ℕ → Step → Bool
is_finish actor s = is_accepted (Finish actor) s

-- how many of the steps are so
abbrev pub count : (Step → Bool) → List Step → ℕ
count f [] = 0
count f (s ∷ ss) = cond (f s) 1 0 + count f ss

-- what a link holds after the steps: its delay, what its sender has begun to make, less what its receiver is done with
abbrev pub held_after : Link → List Step → ℕ
held_after link steps =
    (link.delay + count (is_start link.sender) steps) - count (is_finish link.receiver) steps

-- the link held so much at some moment of the steps, and never more
pub record Most (link : Link) (steps : List Step) (most : ℕ) : Type 0 where
  pub never_more : (k : ℕ) → k ≤ length steps → held_after link (take k steps) ≤ most
  pub once : (k : ℕ) × ((k ≤ length steps) × (held_after link (take k steps) ≡ most))
