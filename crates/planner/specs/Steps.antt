-- What planning's two steps after the survey leave.
use Rattle.std.specs.Prelude.{ℕ, ◌+◌, List, ◌++◌, map, length, take, drop}
use Rattle.records.specs.declared.tables.Actor.{Actor}
use Rattle.records.specs.declared.tables.Link.{Link}
use Rattle.records.specs.Tables.{link_edge}
use Rattle.paths.specs.declared.delay.Delay.{Delay}
use Rattle.planning.specs.Backs.{Ground}
use Rattle.planning.specs.Edges.{orders}
use Rattle.planning.specs.Marks.{marked, sized}
use Rattle.planning.specs.Tables.{least_delays, parts}

-- what groups are read off, where the first links are given
abbrev pub ground_of : List Actor → List Delay → List Link → Ground
ground_of actors delays given = record { actors = actors; delays = delays; joined = parts (length actors) (orders actors ++ map link_edge given) }

-- the table with the back links after the given ones
abbrev pub with_backs : List Link → ℕ → List Link → List Link
with_backs links given new = take given links ++ (new ++ drop (given + length new) links)

-- the least delays over the orders and these links
abbrev pub delays_over : List Actor → List Link → List Delay
delays_over actors links = least_delays (length actors) (orders actors ++ map link_edge links)

-- these links, of which the first are given, each with its mark and size
abbrev pub finished : List Actor → ℕ → List Link → List Link
finished actors given links =
    sized (length actors) (delays_over actors links) (marked actors (map link_edge links) (take given links) ++ drop given links)
