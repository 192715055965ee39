-- How a run is opened: what its checks leave known of the tables, and what it has at first.
use Rattle.std.specs.Prelude.{◌≡◌, ℕ, ◌<◌, ◌≤◌, true, false, List, length, get_or, replicate, Some, None, Option, slice_index_or}
use Rattle.records.specs.declared.fault.Fault.{Fault}
use Rattle.records.specs.declared.tables.Actor.{Actor}
use Rattle.records.specs.declared.tables.Link.{Link}
use Rattle.records.specs.Tables.{no_link, processor_of}
use Rattle.guards.specs.Levels.{Level, unfit}
use Rattle.running.specs.Rows.{each, guarded, set_up}
use Rattle.running.specs.Runs.{first_turns}

-- guards of this largest size can be given to all kept and back links
abbrev pub GuardsFit : ℕ → List Link → Type 0
GuardsFit largest links = (k : ℕ) → k < length links → guarded (slice_index_or links k no_link) ≡ true
    → unfit largest (get_or links k no_link).delay (get_or links k no_link).size ≡ false

-- every processor is one of 16
abbrev pub ProcessorsLow : List Actor → Type 0
ProcessorsLow actors = (a : ℕ) → a < length actors → processor_of actors a < 16

-- the ends of every link are actors
abbrev pub EndsLow : List Actor → List Link → Type 0
EndsLow actors links = (k : ℕ) → k < length links → ((get_or links k no_link).sender < length actors) × ((get_or links k no_link).receiver < length actors)

-- cross links have cells
abbrev pub HasCells : List Link → Type 0
HasCells links = (k : ℕ) → k < length links → (get_or links k no_link).mark ≤ 1 → 0 < (get_or links k no_link).size

-- tables that a run can stand on; it has room for 64 actors
abbrev pub TablesFit : List Actor → List Link → Type 0
TablesFit actors links = (length actors ≤ 64) × ProcessorsLow actors × EndsLow actors links × HasCells links

-- whose turn it is at first, and the guards at first
abbrev pub turns_if : Option Fault → List Actor → List ℕ
turns_if None actors = first_turns actors
turns_if (Some f) actors = replicate 16 0

abbrev pub row_if : Option Fault → List Link → List Level → List Level
row_if None links row = each set_up links row
row_if (Some f) links row = row
