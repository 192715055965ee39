-- Which links are dropped, and how many cells each buffer has.
use Rattle.std.specs.Prelude.{ℕ, ◌+◌, Bool, cond, List, [], ◌∷◌, ◌++◌, map, length, ◌==◌, nat_le}
use Rattle.records.specs.declared.tables.Actor.{Actor}
use Rattle.records.specs.declared.tables.Edge.{Edge}
use Rattle.records.specs.declared.tables.Link.{Link}
use Rattle.records.specs.Tables.{link_edge, processor_of}
use Rattle.paths.specs.Closure.{entry}
use Rattle.paths.specs.Models.{delay_ops}
use Rattle.paths.specs.declared.delay.Delay.{Delay}
use Rattle.planning.specs.Edges.{orders, without}
use Rattle.planning.specs.Tables.{least_delays}

-- both ends are on one processor
abbrev pub local : List Actor → Edge → Bool
local actors e = processor_of actors e.sender == processor_of actors e.receiver

-- the least delays over the orders and links but for link i, which is e, and its twins of higher number
abbrev pub delays_without : List Actor → List Edge → ℕ → Edge → List Delay
delays_without actors links i e = least_delays (length actors) (orders actors ++ without i e 0 links)

-- another path enforces the wait of link i, which is e
unfoldable pub redundant : List Actor → List Edge → ℕ → Edge → Bool
redundant actors links i e =
    nat_le (entry delay_ops (delays_without actors links i e) (length actors) e.sender e.receiver).value e.delay

-- 0 dropped, 1 kept, 2 local
abbrev pub mark_of : List Actor → List Edge → ℕ → Edge → ℕ
mark_of actors links i e = cond (local actors e) 2 (cond (redundant actors links i e) 0 1)

abbrev pub with_mark : Link → ℕ → Link
with_mark l k = record { sender = l.sender; receiver = l.receiver; delay = l.delay; mark = k; size = l.size }

-- each element with its number, counted from k
abbrev pub numbered : {X : Type 0} → (ℕ → X → X) → ℕ → List X → List X
numbered f k [] = []
numbered f k (x ∷ xs) = f k x ∷ numbered f (k + 1) xs

-- the link with number i, marked; links are the edges of all links, back links too
abbrev pub mark_link : List Actor → List Edge → ℕ → Link → Link
mark_link actors links i l = with_mark l (mark_of actors links i (link_edge l))

-- the given links, each with its mark
abbrev pub marked : List Actor → List Edge → List Link → List Link
marked actors links ls = numbered (mark_link actors links) 0 ls

abbrev pub with_size : Link → ℕ → Link
with_size l k = record { sender = l.sender; receiver = l.receiver; delay = l.delay; mark = l.mark; size = k }

-- the delay and the least delay back, or 0 for a local link
abbrev pub size_of : ℕ → List Delay → Link → ℕ
size_of n delays l =
    cond (l.mark == 2) 0
    (delay_ops.follow (delay_ops.edge l.delay) (entry delay_ops delays n l.receiver l.sender)).value

abbrev pub size_link : ℕ → List Delay → Link → Link
size_link n delays l = with_size l (size_of n delays l)

abbrev pub sized : ℕ → List Delay → List Link → List Link
sized n delays ls = map (size_link n delays) ls
