-- Guards that are left alone.
use Rattle.std.specs.Prelude.{◌≡◌, ℕ, ◌+◌, ◌<◌, Bool, false, List, [], length, take, drop, Some, None, Ok, Err, Option, Result, slice_index_or}
use Rattle.records.specs.declared.fault.Fault.{Fault}
use Rattle.records.specs.declared.tables.Link.{Link}
use Rattle.records.specs.Tables.{no_link}
use Rattle.planning.specs.Planning.{Given, Totals, planned}
use Rattle.guards.specs.Levels.{Level}
use Rattle.running.specs.declared.Act.{Act}
use Rattle.running.specs.Rows.{guarded, concerns}
use Rattle.running.specs.Rehearsals.{plan_opened}

-- the element with number k, or nothing
abbrev pub at : {X : Type 0} → ℕ → List X → List X
at k xs = take 1 (drop k xs)

-- guards whose links fail the test, and guards past the links, are the very same afterwards
abbrev pub Stand : {G : Type 0} → (Link → Bool) → List Link → List G → List G → Type 0
Stand test links before after = (k : ℕ) → (k < length links → test (slice_index_or links k no_link) ≡ false) → at k after ≡ at k before

-- the links that have a guard, of a run without fault
abbrev pub guarded_if : Option Fault → Link → Bool
guarded_if None l = guarded l
guarded_if (Some f) l = false

-- the links whose guards an act of this actor moves, unless it is refused
abbrev pub moved_if : Result Unit Fault → Act → ℕ → Link → Bool
moved_if (Ok _) act actor l = concerns act actor l
moved_if (Err f) act actor l = false

-- the links that have a guard in a run that is opened soundly on the plan of an accepted drawing
abbrev pub guarded_after : ℕ → Given → Result Totals Fault → List Level → Link → Bool
guarded_after largest d (Ok t) row l = guarded_if (plan_opened largest d t row).fault l
guarded_after largest d (Err f) row l = false

abbrev pub guarded_in : ℕ → Given → List Level → Link → Bool
guarded_in largest d row l = guarded_after largest d (planned d).answer row l

-- the links that an accepted plan has in the table
abbrev pub plan_links_of : Result Totals Fault → List Link → List Link
plan_links_of (Ok t) links = take (t.given + t.back) links
plan_links_of (Err f) links = []
