-- The subject: actors start and finish, an edge makes starts of its receiver wait for finishes of its sender, and orders and
-- chosen links enforce waits.
use Rattle.std.specs.Prelude.{◌≡◌, ℕ, ◌+◌, ◌-◌, ◌<◌, ◌≤◌, Bool, true, false, cond, ◌⊎◌, List, [], ◌∷◌, ◌++◌, length, ◌==◌, ◌≢◌, slice_index_or}
use Rattle.records.specs.declared.tables.Actor.{Actor}
use Rattle.records.specs.declared.tables.Edge.{Edge}
use Rattle.records.specs.Tables.{edge, processor_of}

pub data Event : Type 0 where
  start : ℕ → Event
  finish : ℕ → Event

-- how often actor a starts
abbrev pub starts : ℕ → List Event → ℕ
starts a [] = 0
starts a (start b ∷ xs) = cond (a == b) 1 0 + starts a xs
starts a (finish b ∷ xs) = starts a xs

-- how often actor a finishes
abbrev pub finishes : ℕ → List Event → ℕ
finishes a [] = 0
finishes a (start b ∷ xs) = finishes a xs
finishes a (finish b ∷ xs) = cond (a == b) 1 0 + finishes a xs

-- the events of actor a alternate; the next is a finish if a is running, else a start
abbrev pub Alternates : ℕ → Bool → List Event → Type 0
Alternates a running [] = Unit {0}
Alternates a running (start b ∷ xs) = cond (a == b) ((running ≡ false) × Alternates a true xs) (Alternates a running xs)
Alternates a running (finish b ∷ xs) = cond (a == b) ((running ≡ true) × Alternates a false xs) (Alternates a running xs)

-- every actor starts, finishes, starts again, and so on
abbrev pub Lawful : List Event → Type 0
Lawful xs = (a : ℕ) → Alternates a false xs

-- an edge from u to v with delay d: start number k of v comes after finish number k - d of u, for every k above d
abbrev pub Obeys : List Event → Edge → Type 0
Obeys xs e = (ys zs : List Event) (k : ℕ) → xs ≡ ys ++ (start e.receiver ∷ zs) → k ≡ starts e.receiver ys + 1 → e.delay < k
    → k - e.delay ≤ finishes e.sender ys

-- e is one of the edges
abbrev pub In : Edge → List Edge → Type 0
In e [] = ⊥
In e (f ∷ es) = (e ≡ f) ⊎ In e es

-- every one of the edges is obeyed
abbrev pub ObeysAll : List Event → List Edge → Type 0
ObeysAll xs es = (e : Edge) → In e es → Obeys xs e

-- every lawful list that obeys all of es obeys e
abbrev pub Enforces : List Edge → Edge → Type 0
Enforces es e = (xs : List Event) → Lawful xs → ObeysAll xs es → Obeys xs e

-- v is the next actor after u on their processor
pub record Next (actors : List Actor) (u v : ℕ) : Type 0 where
  pub below : v < length actors
  pub later : u < v
  pub same : processor_of actors u ≡ processor_of actors v
  pub between : (w : ℕ) → u < w → w < v → processor_of actors w ≢ processor_of actors v

-- u is the last actor and v the first of one processor
pub record Round (actors : List Actor) (u v : ℕ) : Type 0 where
  pub last_below : u < length actors
  pub first_below : v < length actors
  pub same : processor_of actors u ≡ processor_of actors v
  pub ends : (w : ℕ) → w < length actors → processor_of actors w ≡ processor_of actors v → (v ≤ w) × (w ≤ u)

-- the edges of the processors' orders: to the next actor with delay 0, from the last to the first with delay 1
abbrev pub Order : List Actor → Edge → Type 0
Order actors e =
    (Next actors e.sender e.receiver × (e.delay ≡ 0)) ⊎ (Round actors e.sender e.receiver × (e.delay ≡ 1))

-- a lawful list that obeys the processors' orders and these links
pub record Follows (actors : List Actor) (links : List Edge) (xs : List Event) : Type 0 where
  pub lawful : Lawful xs
  pub obeys_orders : (e : Edge) → Order actors e → Obeys xs e
  pub obeys_links : ObeysAll xs links

-- whoever follows the orders and these links obeys e too
abbrev pub Enforced : List Actor → List Edge → Edge → Type 0
Enforced actors links e = (xs : List Event) → Follows actors links xs → Obeys xs e

-- the edge with number i
abbrev pub place : List Edge → ℕ → Edge
place es i = slice_index_or es i (edge 0 0 0)

-- the edges, numbered from k on, whose numbers C has
abbrev pub chosen_from : (ℕ → Bool) → ℕ → List Edge → List Edge
chosen_from C k [] = []
chosen_from C k (e ∷ es) = cond (C k) (e ∷ chosen_from C (k + 1) es) (chosen_from C (k + 1) es)

-- the edges whose numbers C has
abbrev pub chosen : (ℕ → Bool) → List Edge → List Edge
chosen C es = chosen_from C 0 es

-- one or more edges of es that lead from u to v, with their total delay
pub data Path (es : List Edge) : ℕ → ℕ → ℕ → Type 0 where
  last : {u v d : ℕ} → In (edge u v d) es → Path es u v d
  step : {u w v t : ℕ} (d : ℕ) → In (edge u w d) es → Path es w v t → Path es u v (d + t)

-- no closed path has total delay 0
abbrev pub Live : List Edge → Type 0
Live es = (u : ℕ) → Path es u u 0 → ⊥

-- both ends of every edge are actors below n
abbrev pub Within : ℕ → List Edge → Type 0
Within n es = (e : Edge) → In e es → (e.sender < n) × (e.receiver < n)
