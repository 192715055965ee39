-- A run: how it stands, what each call answers, and how it stands afterwards.
use Rattle.std.specs.Prelude.{ℕ, ◌+◌, ◌-◌, ◌%◌, Bool, false, cond, not, ◌&&◌, ◌||◌, List, [], ◌∷◌, map, length, take, drop, replicate, Some, None, Ok, Err, Option, Result, ◌==◌, nat_le, nat_lt, slice_index, slice_index_or, slice_set}
use Rattle.std.specs.List.{range_with_len}
use Rattle.records.specs.declared.fault.Fault.{Fault}
use Rattle.records.specs.declared.fault.Layer.TheVariants.{Run}
use Rattle.records.specs.declared.tables.Actor.{Actor}
use Rattle.records.specs.declared.tables.Link.{Link}
use Rattle.records.specs.Faults.{fault, then}
use Rattle.records.specs.Tables.{no_link, processor_of}
use Rattle.records.specs.declared.refusal.Refusal.TheVariants as refusal
use Rattle.planning.specs.Checks.{refuse_if, refuse_first}
use Rattle.planning.specs.Planning.{Totals}
use Rattle.guards.specs.Levels.{Level}
use Rattle.running.specs.declared.Act.{Act}
use Rattle.running.specs.declared.Act.TheVariants.{Start, Finish}
use Rattle.running.specs.declared.Cells.{Cells}
use Rattle.running.specs.declared.Entry.{Entry}
use Rattle.running.specs.Entries.{rested, entry_check, entry_after}
use Rattle.running.specs.Rows.{each, first_link, guarded, set_up, blocks, passes}

-- what a run reads: the slip's actors, and its given and back links
pub record Site : Type 0 where
  pub actors : List Actor
  pub links : List Link

-- what a run keeps
pub record Standing : Type 0 where
  -- why it is unsound, if it is
  pub fault : Option Fault
  pub entries : List Entry
  -- for each processor the actor whose turn it is
  pub turns : List ℕ
  pub row : List Level

abbrev pub site : List Actor → List Link → Site
site actors links = record { actors = actors; links = links }

abbrev pub standing : Option Fault → List Entry → List ℕ → List Level → Standing
standing fault entries turns row = record { fault = fault; entries = entries; turns = turns; row = row }

-- the part of the tables that a slip speaks of
abbrev pub site_of : Totals → List Actor → List Link → Site
site_of t actors links = site (take t.actors actors) (take (t.given + t.back) links)

-- the lowest actor on processor p, counted from k
abbrev pub first_on : ℕ → ℕ → List Actor → Option ℕ
first_on p k [] = None
first_on p k (x ∷ xs) = cond (x.processor == p) (Some k) (first_on p (k + 1) xs)

abbrev pub or_else : Option ℕ → ℕ → ℕ
or_else None k = k
or_else (Some a) k = a

-- whose turn it is on processor p at first
abbrev pub first_turn : List Actor → ℕ → ℕ
first_turn actors p = or_else (first_on p 0 actors) 0

-- whose turn it is after actor a has finished: the next on its processor, or again the first
unfoldable pub turn_after : List Actor → ℕ → ℕ
turn_after actors a =
    or_else (first_on (processor_of actors a) (a + 1) (drop (a + 1) actors)) (first_turn actors (processor_of actors a))

abbrev pub first_turns : List Actor → List ℕ
first_turns actors = map (first_turn actors) (range_with_len 0 16)

-- some processor is above 15
abbrev pub far_processor : List Actor → Bool
far_processor [] = false
far_processor (x ∷ xs) = nat_lt 15 x.processor || far_processor xs

-- the tables or the row have less than the slip counts; the run's own table has 64 entries
abbrev pub short : Totals → ℕ → ℕ → ℕ → Bool
short t actors links row =
    nat_lt 64 t.actors || (nat_lt actors t.actors || (nat_lt links (t.given + t.back) || nat_lt row (t.given + t.back)))

-- a link that no run can stand on, with n actors and guards of this largest size
abbrev pub unfit_link : ℕ → ℕ → Link → Bool
unfit_link largest n l =
    nat_le n l.sender || (nat_le n l.receiver || (nat_lt 3 l.mark
    || ((not (l.mark == 2) && (l.size == 0 || nat_lt l.size l.delay)) || (guarded l && nat_lt largest l.size))))

-- what makes a run unsound
unfoldable pub open_check : ℕ → Totals → List Actor → List Link → ℕ → Result Unit Fault
open_check largest t actors links row =
    then (refuse_if (short t (length actors) (length links) row || far_processor (take t.actors actors)) (fault refusal.UnfitTables Run 0)) (λ _.
    refuse_first (unfit_link largest t.actors) refusal.UnfitLink Run 0 (take (t.given + t.back) links))

abbrev pub fault_of : Result Unit Fault → Option Fault
fault_of (Ok _) = None
fault_of (Err f) = Some f

abbrev pub all_rested : List Entry
all_rested = replicate 64 rested

abbrev pub standing_if : Result Unit Fault → Site → List Level → Standing
standing_if (Ok _) s row = standing None all_rested (first_turns s.actors) (each set_up s.links row)
standing_if (Err f) s row = standing (Some f) all_rested (replicate 16 0) row

-- how a run stands that was opened with guards of this largest size
unfoldable pub opened : ℕ → Totals → List Actor → List Link → List Level → Standing
opened largest t actors links row = standing_if (open_check largest t actors links (length row)) (site_of t actors links) row

-- an unsound run refuses with its fault
abbrev pub fault_check : Option Fault → Result Unit Fault
fault_check None = Ok tt
fault_check (Some f) = Err f

abbrev pub entry_at : Standing → ℕ → Entry
entry_at now a = slice_index_or now.entries a rested

abbrev pub has_turn : Site → Standing → ℕ → Bool
has_turn s now a = slice_index now.turns (processor_of s.actors a) == a

-- what is refused of a start or finish of actor a
unfoldable pub act_check : Site → Standing → Act → ℕ → Result Unit Fault
act_check s now act a =
    then (fault_check now.fault) (λ _.
    then (refuse_if (nat_le (length s.actors) a) (fault refusal.Unknown Run a)) (λ _.
    entry_check act a (has_turn s now a) (first_link (blocks act a) 0 s.links now.row) (entry_at now a)))

abbrev pub turns_after : Site → Act → ℕ → List ℕ → List ℕ
turns_after s Start a turns = turns
turns_after s Finish a turns = slice_set turns (processor_of s.actors a) (turn_after s.actors a)

-- after an accepted start or finish of actor a
unfoldable pub acted : Site → Standing → Act → ℕ → Standing
acted s now act a =
    standing now.fault (slice_set now.entries a (entry_after act (entry_at now a))) (turns_after s act a now.turns)
    (each (passes act a) s.links now.row)

-- a refusal changes nothing
abbrev pub if_accepted : Result Unit Fault → Standing → Standing → Standing
if_accepted (Ok _) new old = new
if_accepted (Err _) new old = old

abbrev pub after_act : Site → Standing → Act → ℕ → Standing
after_act s now act a = if_accepted (act_check s now act a) (acted s now act a) now

-- the buffer of a link whose sender and receiver have these entries
abbrev pub buffer : Link → Entry → Entry → Cells
buffer l sender receiver = record {
  held = (l.delay + sender.starts) - receiver.finishes;
  write = (l.delay + sender.starts) % l.size;
  read = receiver.starts % l.size;
}

abbrev pub link_at : Site → ℕ → Link
link_at s i = slice_index_or s.links i no_link

-- what the cells question about link i answers; a cross link has mark 0 or 1
unfoldable pub cells_answer : Site → Standing → ℕ → Result Cells Fault
cells_answer s now i =
    then (fault_check now.fault) (λ _.
    then (refuse_if (nat_le (length s.links) i || nat_lt 1 (link_at s i).mark) (fault refusal.Unknown Run i)) (λ _.
    Ok (buffer (link_at s i) (entry_at now (link_at s i).sender) (entry_at now (link_at s i).receiver))))

abbrev pub cells_values : Cells → List ℕ
cells_values c = c.held ∷ c.write ∷ c.read ∷ []
