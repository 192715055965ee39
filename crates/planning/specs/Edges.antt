-- The edges of a drawing: the processors' orders, and the links.
use Rattle.std.specs.Prelude.{ℕ, zero, suc, ◌+◌, ◌<◌, Bool, cond, ◌&&◌, List, [], ◌∷◌, map, length, Some, None, Option, ◌==◌, nat_le}
use Rattle.std.specs.List.{range_with_len}
use Rattle.records.specs.declared.tables.Actor.{Actor}
use Rattle.records.specs.declared.tables.Edge.{Edge}
use Rattle.records.specs.Tables.{edge, processor_of}

-- the highest actor below k on the processor p
abbrev pub last_on : List Actor → ℕ → ℕ → Option ℕ
last_on actors p zero = None
last_on actors p (suc k) = cond (processor_of actors k == p) (Some k) (last_on actors p k)

-- the edge into v from the actor before it in the order, or else from the last one, with delay 1
abbrev pub edge_into : ℕ → Option ℕ → Option ℕ → Edge
edge_into v (Some before) last = edge before v 0
edge_into v None (Some last) = edge last v 1
edge_into v None None = edge v v 1

-- the one edge of its processor's order that enters v
unfoldable pub order_edge : List Actor → ℕ → Edge
order_edge actors v =
    edge_into v (last_on actors (processor_of actors v) v) (last_on actors (processor_of actors v) (length actors))

abbrev pub orders : List Actor → List Edge
orders actors = map (order_edge actors) (range_with_len 0 (length actors))

-- equal sender, receiver and delay
abbrev pub twins : Edge → Edge → Bool
twins e f = e.sender == f.sender && (e.receiver == f.receiver && e.delay == f.delay)

-- the edges from number j on but for those that are numbered i or higher and are twins of e
abbrev pub without : ℕ → Edge → ℕ → List Edge → List Edge
without i e j [] = []
without i e j (f ∷ fs) = cond (nat_le i j && twins e f) (without i e (j + 1) fs) (f ∷ without i e (j + 1) fs)

-- the ends of each edge are below n
abbrev pub Within : ℕ → List Edge → Type 0
Within n [] = Unit {0}
Within n (e ∷ es) = ((e.sender < n) × (e.receiver < n)) × Within n es
