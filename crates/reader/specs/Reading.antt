-- How a text is read: four checks, each over all its lines, and then the records that the lines write.
use Rattle.std.specs.Prelude.{ℕ, ◌+◌, ◌-◌, min, Bool, true, false, cond, List, [], ◌∷◌, ◌++◌, length, drop, Ok, Err, Result, ◌==◌, nat_lt}
use Rattle.records.specs.Faults.{fault, then}
use Rattle.records.specs.declared.fault.Fault.{Fault}
use Rattle.records.specs.declared.fault.Layer.TheVariants.{Text}
use Rattle.records.specs.declared.tables.Actor.{Actor}
use Rattle.records.specs.declared.tables.Link.{Link}
use Rattle.records.specs.declared.refusal.Refusal.TheVariants as refusal
use Rattle.reader.specs.Lines.{cut}
use Rattle.reader.specs.Words.{Parsed, lead, actor, link, line_of, over}
use Rattle.reader.specs.Numbers.{number_of}
use Rattle.reader.specs.declared.Counts.{Counts}
use Rattle.reader.specs.declared.check.Shape.{Shape}
use Rattle.reader.specs.declared.check.Numbers.{Numbers}
use Rattle.reader.specs.declared.check.Order.{Order}
use Rattle.reader.specs.declared.check.Room.{Room}
use Rattle.reader.specs.declared.line.Entry.{Entry}
use Rattle.reader.specs.declared.line.Entry.TheVariants as entry

-- the record that a line writes
abbrev pub actor_record : ℕ → ℕ → Actor
actor_record p e = record { processor = p; estimate = e }

abbrev pub link_record : ℕ → ℕ → ℕ → Link
link_record s r d = record { sender = s; receiver = r; delay = d; mark = 0; size = 0 }

abbrev pub entry_of : Parsed → Result Entry Fault
entry_of (lead a) = then (number_of a) (λ k. Ok (entry.Lead k))
entry_of (actor a b) =
    then (number_of a) (λ p. then (number_of b) (λ e. Ok (entry.Actor (actor_record p e))))
entry_of (link a b c) =
    then (number_of a) (λ s. then (number_of b) (λ r. then (number_of c) (λ d. Ok (entry.Link (link_record s r d)))))

-- shape: each line is made as its letter asks
abbrev pub shape : Shape
shape = record {}

abbrev pub shape_step : ℕ → Parsed → Shape → Result Shape Fault
shape_step n p check = Ok check

-- numbers: each word is one
abbrev pub numbers : Numbers
numbers = record {}

abbrev pub numbers_step : ℕ → Parsed → Numbers → Result Numbers Fault
numbers_step n p check = then (entry_of p) (λ _. Ok check)

-- order: a lead stands first, and no actor after a link
abbrev pub linked_so : Bool → Order
linked_so linked = record { linked = linked }

abbrev pub order_step : ℕ → Parsed → Order → Result Order Fault
order_step n (lead a) check = cond (n == 1) (Ok check) (Err (fault refusal.OutOfOrder Text n))
order_step n (actor a b) check = cond check.linked (Err (fault refusal.OutOfOrder Text n)) (Ok check)
order_step n (link a b c) check = Ok (linked_so true)

-- room: so many actors and links may still come
abbrev pub room_for : ℕ → ℕ → Room
room_for actors links = record { actors = actors; links = links }

abbrev pub room_step : ℕ → Parsed → Room → Result Room Fault
room_step n (lead a) check = Ok check
room_step n (actor a b) check = cond (nat_lt 0 check.actors) (Ok (room_for (check.actors - 1) check.links)) (Err (fault refusal.NoRoom Text n))
room_step n (link a b c) check = cond (nat_lt 0 check.links) (Ok (room_for check.actors (check.links - 1))) (Err (fault refusal.NoRoom Text n))

-- a step at each line, from the line n on
abbrev pub over_lines : {S : Type 0} → (ℕ → Parsed → S → Result S Fault) → ℕ → S → List (List ℕ) → Result S Fault
over_lines f n s [] = Ok s
over_lines f n s (l ∷ ls) = then (line_of n l) (λ p. then (f n p s) (λ t. over_lines f (n + 1) t ls))

-- one check over a whole text
abbrev pub passed : {S : Type 0} → (ℕ → Parsed → S → Result S Fault) → S → List ℕ → Result S Fault
passed step check text = over_lines step 1 check (cut text)

-- how many actors and links a table with so many records takes
abbrev pub actor_room : ℕ → ℕ
actor_room n = min n 64

abbrev pub link_room : ℕ → ℕ
link_room n = min n 256

-- the check of room over a whole text, for tables of so many records
abbrev pub has_room : ℕ → ℕ → List ℕ → Result Room Fault
has_room actors links text = passed room_step (room_for (actor_room actors) (link_room links)) text

-- what a text says: its records and its lead
pub record Drawing : Type 0 where
  pub actors : List Actor
  pub links : List Link
  pub lead : ℕ

abbrev pub drawing : List Actor → List Link → ℕ → Drawing
drawing table edges k = record { actors = table; links = edges; lead = k }

abbrev pub with_entry : Drawing → Entry → Drawing
with_entry d (entry.Lead k) = drawing d.actors d.links k
with_entry d (entry.Actor a) = drawing (d.actors ++ (a ∷ [])) d.links d.lead
with_entry d (entry.Link l) = drawing d.actors (d.links ++ (l ∷ [])) d.lead

unfoldable pub add_step : ℕ → Parsed → Drawing → Result Drawing Fault
add_step n p d = then (entry_of p) (λ e. Ok (with_entry d e))

abbrev pub drawn : List ℕ → Result Drawing Fault
drawn text = over_lines add_step 1 (drawing [] [] 1) (cut text)

-- the reading of a text into tables of so many actors and links
unfoldable pub reading : List ℕ → ℕ → ℕ → Result Drawing Fault
reading text actors links =
    cond (nat_lt 8192 (length text)) (Err (fault refusal.Misshaped Text 0))
    (then (passed shape_step shape text) (λ _. then (passed numbers_step numbers text) (λ _. then (passed order_step (linked_so false) text)
    (λ _. then (has_room actors links text) (λ _. drawn text)))))

abbrev pub counts_of : Drawing → Counts
counts_of d = record { actors = length d.actors; links = length d.links; lead = d.lead }

abbrev pub count_values : Counts → List ℕ
count_values c = c.actors ∷ c.links ∷ c.lead ∷ []

-- what the tables hold once a drawing is read into them, or was refused
abbrev pub actors_after : Result Drawing Fault → List Actor → List Actor
actors_after (Ok d) old = d.actors ++ drop (length d.actors) old
actors_after (Err f) old = old

abbrev pub links_after : Result Drawing Fault → List Link → List Link
links_after (Ok d) old = d.links ++ drop (length d.links) old
links_after (Err f) old = old

abbrev pub reading_answer : List ℕ → ℕ → ℕ → Result Counts Fault
reading_answer text actors links = over counts_of (reading text actors links)

abbrev pub reading_actors : List ℕ → List Actor → List Link → List Actor
reading_actors text actors links = actors_after (reading text (length actors) (length links)) actors

abbrev pub reading_links : List ℕ → List Actor → List Link → List Link
reading_links text actors links = links_after (reading text (length actors) (length links)) links
