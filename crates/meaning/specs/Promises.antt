-- What planning promises, in the words of the subject.
use Rattle.std.specs.Prelude.{◌≡◌, ℕ, ◌+◌, ◌*◌, ◌<◌, ◌≤◌, Bool, ◌||◌, ◌⊎◌, List, map, length, take, Ok, Err, ◌==◌, ◌≢◌, slice_index_or}
use Rattle.records.specs.declared.fault.Fault.{Fault}
use Rattle.records.specs.declared.fault.Layer.TheVariants.{Plan}
use Rattle.records.specs.declared.tables.Edge.{Edge}
use Rattle.records.specs.Faults.{fault}
use Rattle.records.specs.Tables.{no_link, link_edge, processor_of}
use Rattle.records.specs.declared.refusal.Refusal.TheVariants as refusal
use Rattle.waits.specs.Counting.{count}
use Rattle.waits.specs.Events.{Order, Follows, Enforced, Event, starts, finishes, In, Path, Live, place, chosen}
use Rattle.waits.specs.Walks.{Short}
use Rattle.paths.specs.Closure.{entry}
use Rattle.paths.specs.Models.{delay_ops}
use Rattle.planning.specs.Edges.{orders}
use Rattle.planning.specs.Planning.{Given, Totals, over, base_edges, edges_with, all_links, back_links, plan_delays, plan_links, tables_check, planned}
use Rattle.meaning.specs.Components.{Reaches, Joined, BackLinks}
use Rattle.meaning.specs.Costing.{Costs}

-- the given links of a drawing
abbrev pub given_edges : Given → List Edge
given_edges d = map link_edge (take d.given d.links)

-- some list that follows the drawing lets every actor finish once
abbrev pub Runs : Given → Type 0
Runs d = (xs : List Event) × Follows d.actors (given_edges d) xs × ((x : ℕ) → x < length d.actors → 1 ≤ finishes x xs)

-- p is the lowest actor on a cycle of total delay 0
pub record LowestOnCycle (d : Given) (p : ℕ) : Type 0 where
  pub below : p < length d.actors
  pub on_cycle : Path (base_edges d) p p 0
  pub lowest : (w : ℕ) → w < p → Path (base_edges d) w w 0 → ⊥

-- a drawing whose tables pass is refused as deadlocked exactly when it cannot run
pub record Deadlock (d : Given) : Type 0 where
  pub accepted : (t : Totals) → (planned d).answer ≡ Ok t → Runs d
  pub refused : (f : Fault) → (planned d).answer ≡ Err f → (f ≡ fault refusal.Deadlock Plan f.place) × (Runs d → ⊥) × LowestOnCycle d f.place

abbrev pub DeadlockExactly : Given → Type 0
DeadlockExactly d = tables_check d ≡ Ok tt → Deadlock d

-- the links of the plan as edges, by number: the given ones, then the back links
abbrev pub plan_edges : Given → List Edge
plan_edges d = map link_edge (all_links d)

-- mark and size of a link of the plan
abbrev pub mark_at : Given → ℕ → ℕ
mark_at d i = (slice_index_or (plan_links d) i no_link).mark

abbrev pub size_at : Given → ℕ → ℕ
size_at d i = (slice_index_or (plan_links d) i no_link).size

-- the kept and back links
abbrev pub waited : Given → ℕ → Bool
waited d i = mark_at d i == 1 || mark_at d i == 3

abbrev pub waited_edges : Given → List Edge
waited_edges d = chosen (waited d) (plan_edges d)

-- link i is given and joins two processors
pub record Cross (d : Given) (i : ℕ) : Type 0 where
  pub given : i < length (given_edges d)
  pub across : processor_of d.actors (place (plan_edges d) i).sender ≡ processor_of d.actors (place (plan_edges d) i).receiver → ⊥

-- link i joins two processors, be it given or a back link
pub record Crossing (d : Given) (i : ℕ) : Type 0 where
  pub below : i < length (plan_edges d)
  pub across : processor_of d.actors (place (plan_edges d) i).sender ≡ processor_of d.actors (place (plan_edges d) i).receiver → ⊥

-- e is an edge of the orders, or a link that is neither link i nor a twin of it with a higher number
abbrev pub Beside : Given → ℕ → Edge → Type 0
Beside d i e =
    Order d.actors e
    ⊎ ((j : ℕ) × (j < length (plan_edges d)) × (place (plan_edges d) j ≡ e) × (j ≢ i) × (i < j → place (plan_edges d) i ≢ e))

-- a path of such edges leads from the sender of link i to its receiver with at most its delay
pub record Replaced (d : Given) (i : ℕ) : Type 0 where
  pub edges : List Edge
  pub beside : (e : Edge) → In e edges → Beside d i e
  pub total : ℕ
  pub low : total ≤ (place (plan_edges d) i).delay
  pub path : Path edges (place (plan_edges d) i).sender (place (plan_edges d) i).receiver total

-- a number that is the smallest total delay over paths from u to v, and that of a path with at most as many edges as there
-- are actors; or 4,294,967,295 where there is none
pub record Least (d : Given) (u v least : ℕ) : Type 0 where
  pub attained : least < 4294967295 → Short (edges_with d (all_links d)) (length d.actors) u v least
  pub smallest : (t : ℕ) → Path (edges_with d (all_links d)) u v t → (least ≤ t) × (least ≤ 64000)

-- the chosen links of the plan enforce the waits of all its links
abbrev pub EnforceAll : Given → List Edge → Type 0
EnforceAll d links = (i : ℕ) → i < length (plan_edges d) → Enforced d.actors links (place (plan_edges d) i)

-- the kept and back links do
abbrev pub Enough : Given → Type 0
Enough d = EnforceAll d (waited_edges d)

-- every choice that does has at least as many
abbrev pub Fewest : Given → Type 0
Fewest d = (C : ℕ → Bool) → EnforceAll d (chosen C (plan_edges d)) → count (waited d) (length (plan_edges d)) ≤ count C (length (plan_edges d))

-- no actor starts more often than this, and only actors of the drawing start and finish
pub record Brief (d : Given) (most : ℕ) (xs : List Event) : Type 0 where
  pub few : (x : ℕ) → starts x xs ≤ most
  pub outside : (x : ℕ) → length d.actors ≤ x → (starts x xs ≡ 0) × (finishes x xs ≡ 0)

-- some brief list fills the link exactly
abbrev pub BrieflyFull : Given → ℕ → Type 0
BrieflyFull d i =
    (xs : List Event) × Follows d.actors (waited_edges d) xs × Brief d 64000 xs
    × ((place (plan_edges d) i).delay + starts (place (plan_edges d) i).sender xs ≡ finishes (place (plan_edges d) i).receiver xs + size_at d i)

-- what the plan of an accepted drawing means
pub record PlanMeans (d : Given) : Type 0 where
  -- back links create no deadlock
  pub live : Live (edges_with d (all_links d))
  pub least : (u v : ℕ) → u < length d.actors → v < length d.actors → Least d u v (entry delay_ops (plan_delays d) (length d.actors) u v).value
  -- local links are marked 2, back links 3
  pub local : (i : ℕ) → i < length (plan_edges d)
      → processor_of d.actors (place (plan_edges d) i).sender ≡ processor_of d.actors (place (plan_edges d) i).receiver → mark_at d i ≡ 2
  pub back : (i : ℕ) → length (given_edges d) ≤ i → i < length (plan_edges d) → mark_at d i ≡ 3
  -- a cross link is dropped exactly when a path replaces it, and else kept
  pub dropped : (i : ℕ) → Cross d i → mark_at d i ≡ 0 → Replaced d i
  pub replaced : (i : ℕ) → Cross d i → Replaced d i → mark_at d i ≡ 0
  pub kept : (i : ℕ) → Cross d i → (Replaced d i → ⊥) → mark_at d i ≡ 1
  -- the kept and back links enforce the waits of all links
  pub enough : (i : ℕ) → i < length (plan_edges d) → Enforced d.actors (waited_edges d) (place (plan_edges d) i)
  -- every choice that does so has at least as many
  pub fewest : (C : ℕ → Bool) → ((i : ℕ) → i < length (plan_edges d) → Enforced d.actors (chosen C (plan_edges d)) (place (plan_edges d) i))
      → count (waited d) (length (plan_edges d)) ≤ count C (length (plan_edges d))
  -- a cross or back link has as many cells as its delay and the least delay back say
  pub cells : (i : ℕ) → Crossing d i
      → size_at d i ≡ (place (plan_edges d) i).delay + (entry delay_ops (plan_delays d) (length d.actors) (place (plan_edges d) i).receiver (place (plan_edges d) i).sender).value
  pub cells_few : (i : ℕ) → Crossing d i → size_at d i ≤ 65000
  -- it never holds more values
  pub never_overfull : (i : ℕ) → Crossing d i → (xs : List Event) → Follows d.actors (waited_edges d) xs → (k : ℕ)
      → (place (plan_edges d) i).delay + starts (place (plan_edges d) i).sender (take k xs) ≤ finishes (place (plan_edges d) i).receiver (take k xs) + size_at d i
  -- and some list fills it exactly
  pub can_be_full : (i : ℕ) → Crossing d i → (xs : List Event) × Follows d.actors (waited_edges d) xs
      × ((place (plan_edges d) i).delay + starts (place (plan_edges d) i).sender xs ≡ finishes (place (plan_edges d) i).receiver xs + size_at d i)

-- what the back links of an accepted drawing are, and what they do
pub record BacksMean (d : Given) : Type 0 where
  -- they are the one list of links that the subject asks for
  pub links : BackLinks d.actors (base_edges d) d.lead (map link_edge (back_links d))
  pub only : (ls : List Edge) → BackLinks d.actors (base_edges d) d.lead ls → ls ≡ map link_edge (back_links d)
  pub few : length (back_links d) ≤ 15
  -- with them each part is one group
  pub whole : (u v : ℕ) → Joined (base_edges d) u v → Reaches (edges_with d (all_links d)) u v

-- what the costs of an accepted drawing are
pub record CostsMean (d : Given) (t : Totals) : Type 0 where
  pub before : Costs d.actors (base_edges d) (given_edges d) t.before
  -- 2 for each kept or back link
  pub after : t.after ≡ 2 * count (waited d) (length (plan_edges d))
  pub no_dearer : t.after ≤ t.before

-- where the links and the least delays of an accepted drawing are found
pub record Found (d : Given) : Type 0 where
  pub links : (planned d).links ≡ over (plan_links d) d.links
  pub delays : (planned d).delays ≡ over (plan_delays d) d.delays
  -- the plan's links are the given and the back links
  pub edges : map link_edge (plan_links d) ≡ plan_edges d

-- all that planning promises of a drawing
pub record Promise (d : Given) : Type 0 where
  -- the edges that it adds to the links are those of the processors' orders
  pub orders : (e : Edge) → (In e (orders d.actors) → Order d.actors e) × (Order d.actors e → In e (orders d.actors))
  pub deadlock : DeadlockExactly d
  pub backs : (t : Totals) → (planned d).answer ≡ Ok t → BacksMean d
  pub means : (t : Totals) → (planned d).answer ≡ Ok t → PlanMeans d
  pub costs : (t : Totals) → (planned d).answer ≡ Ok t → CostsMean d t
  pub found : (t : Totals) → (planned d).answer ≡ Ok t → Found d
