-- One actor of a run: when it may start or finish, and what becomes of its entry.
use Rattle.std.specs.Prelude.{ℕ, ◌+◌, Bool, true, false, not, ◌||◌, Some, None, Ok, Err, Option, Result, nat_le}
use Rattle.records.specs.declared.fault.Fault.{Fault}
use Rattle.records.specs.declared.fault.Layer.TheVariants.{Run}
use Rattle.records.specs.Faults.{fault, then}
use Rattle.records.specs.declared.refusal.Refusal.TheVariants as refusal
use Rattle.records.specs.declared.refusal.Refusal.{Refusal}
use Rattle.planning.specs.Checks.{refuse_if}
use Rattle.running.specs.declared.Act.{Act}
use Rattle.running.specs.declared.Act.TheVariants.{Start, Finish}
use Rattle.running.specs.declared.Entry.{Entry}
use Rattle.running.specs.declared.State.{State}
use Rattle.running.specs.declared.State.TheVariants.{Resting, Running}

-- an actor that was never started
abbrev pub rested : Entry
rested = record { state = Resting; starts = 0; finishes = 0 }

abbrev pub runs : State → Bool
runs Resting = false
runs Running = true

-- refused because of a link, if there is one
abbrev pub refuse_at : Refusal → Option ℕ → Result Unit Fault
refuse_at why None = Ok tt
refuse_at why (Some link) = Err (fault why Run link)

-- what is refused of actor a, which has this entry, where the first link that stops the act is known; an actor that runs has
-- its processor's turn, so that a processor runs exactly if the actor whose turn it is does
abbrev pub entry_check : Act → ℕ → Bool → Option ℕ → Entry → Result Unit Fault
entry_check Start a turn blocked e =
    then (refuse_if (nat_le 1000000000 e.starts) (fault refusal.TooManyStarts Run a)) (λ _.
    then (refuse_if (not turn || runs e.state) (fault refusal.NotItsTurn Run a)) (λ _.
    refuse_at refusal.EmptyLink blocked))
entry_check Finish a turn blocked e =
    then (refuse_if (not (runs e.state)) (fault refusal.Resting Run a)) (λ _.
    refuse_at refusal.Full blocked)

-- the entry after an accepted act; a finish has the number of the start that it ends
abbrev pub entry_after : Act → Entry → Entry
entry_after Start e = record { state = Running; starts = e.starts + 1; finishes = e.finishes }
entry_after Finish e = record { state = Resting; starts = e.starts; finishes = e.starts }

-- a refusal changes nothing
abbrev pub entry_if : Result Unit Fault → Act → Entry → Entry
entry_if (Ok _) act e = entry_after act e
entry_if (Err _) act e = e
