-- Edges, and the records that stand for what lies past a table's end.
use Rattle.std.specs.Prelude.{ℕ, List, slice_index_or}
use Rattle.records.specs.declared.tables.Actor.{Actor}
use Rattle.records.specs.declared.tables.Edge.{Edge}
use Rattle.records.specs.declared.tables.Link.{Link}
use Rattle.records.specs.declared.tables.Mark.{Mark}
use Rattle.records.specs.declared.tables.Mark.TheVariants.{Dropped, Kept, Local, Back}

abbrev pub no_actor : Actor
no_actor = record { processor = 0; estimate = 0 }

abbrev pub no_link : Link
no_link = record { sender = 0; receiver = 0; delay = 0; mark = 0; size = 0 }

-- the number that stands for a mark in a table
abbrev pub mark_number : Mark → ℕ
mark_number Dropped = 0
mark_number Kept = 1
mark_number Local = 2
mark_number Back = 3

abbrev pub edge : ℕ → ℕ → ℕ → Edge
edge u v d = record { sender = u; receiver = v; delay = d }

-- every link, a local one too, is an edge
abbrev pub link_edge : Link → Edge
link_edge l = edge l.sender l.receiver l.delay

-- the processor of an actor
abbrev pub processor_of : List Actor → ℕ → ℕ
processor_of actors u = (slice_index_or actors u no_actor).processor
