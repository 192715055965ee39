-- The ends of a drawing's edges are actors.
use Rattle.std.proofs.Common.{◌≡◌, ℕ, zero, suc, ◌+◌, ◌<◌, ◌≤◌, ◌&&◌, eqb, leb, List, [], ◌∷◌, ◌++◌, map, length, take, IfSome, Some, None, Option, sym, subst, arith, length-take, get_or-take}
use Rattle.std.specs.List.{range_with_len}
use Rattle.std.proofs.lemmas.Bool.{cond_both}
use Rattle.records.specs.declared.tables.Actor.{Actor}
use Rattle.records.specs.declared.tables.Edge.{Edge}
use Rattle.records.specs.declared.tables.Link.{Link}
use Rattle.records.specs.Tables.{no_link, link_edge, processor_of}
use Rattle.planning.specs.Edges.{last_on, edge_into, order_edge, orders, twins, without, Within}
use Rattle.planner.specs.Skipping.{but}
use Rattle.planner.specs.Within.{EndsBelow}

last_below : (actors : List Actor) (p k n : ℕ) → k ≤ n → IfSome (last_on actors p k) (λ u. u < n)
last_below actors p zero n h = tt
last_below actors p (suc k) n h =
    cond_both (eqb (processor_of actors k) p) (Some k) (last_on actors p k) (λ o. IfSome o (λ u. u < n)) (λ _. omega arith) (λ _. last_below actors p k n (omega arith))

edge_into_within : (n v : ℕ) (before last : Option ℕ) → v < n → IfSome before (λ u. u < n) → IfSome last (λ u. u < n)
    → ((edge_into v before last).sender < n) × ((edge_into v before last).receiver < n)
edge_into_within n v (Some u) last hv b l = (b, hv)
edge_into_within n v None (Some u) hv b l = (l, hv)
edge_into_within n v None None hv b l = (hv, hv)

order_within : (actors : List Actor) (v : ℕ) → v < length actors → ((order_edge actors v).sender < length actors) × ((order_edge actors v).receiver < length actors)
unfolding order_edge
order_within actors v h =
    edge_into_within (length actors) v (last_on actors (processor_of actors v) v) (last_on actors (processor_of actors v) (length actors)) h
    (last_below actors (processor_of actors v) v (length actors) (omega arith)) (last_below actors (processor_of actors v) (length actors) (length actors) (omega arith))

orders_from : (actors : List Actor) (a k : ℕ) → a + k ≤ length actors → Within (length actors) (map (order_edge actors) (range_with_len a k))
orders_from actors a zero h = tt
orders_from actors a (suc k) h = (order_within actors a (omega arith), orders_from actors (a + 1) k (omega arith))

pub links_within : (n : ℕ) (links : List Link) → EndsBelow n links → Within n (map link_edge links)
links_within n [] known = tt
links_within n (l ∷ ls) known = (known 0 (omega arith), links_within n ls (λ k h. known (suc k) (omega arith)))

pub ends_from_within : (n : ℕ) (links : List Link) → Within n (map link_edge links) → EndsBelow n links
ends_from_within n [] w k h = absurd (omega arith)
ends_from_within n (l ∷ ls) w zero h = w.0
ends_from_within n (l ∷ ls) w (suc k) h = ends_from_within n ls w.1 k (omega arith)

-- the first of some links
pub ends_front : (n k : ℕ) (links : List Link) → EndsBelow n links → EndsBelow n (take k links)
ends_front n k links known i h =
    let within : i < k = omega (arith, length-take k links) in
    let front = get_or-take k links i no_link within in
    let ends = known i (omega (arith, length-take k links)) in
    (rw front ends.0, rw front ends.1)

-- links with the same edges
pub ends_moved : (n : ℕ) (links others : List Link) → map link_edge others ≡ map link_edge links → EndsBelow n links → EndsBelow n others
ends_moved n links others e known = ends_from_within n others (subst (Within n) (sym e) (links_within n links known))

without_within : (n i : ℕ) (e : Edge) (j : ℕ) (es : List Edge) → Within n es → Within n (without i e j es)
without_within n i e j [] h = tt
without_within n i e j (f ∷ fs) h =
    cond_both (leb i j && twins e f) (without i e (j + 1) fs) (f ∷ without i e (j + 1) fs) (Within n)
    (λ _. without_within n i e (j + 1) fs h.1) (λ _. (h.0, without_within n i e (j + 1) fs h.1))

append_within : (n : ℕ) (es fs : List Edge) → Within n es → Within n fs → Within n (es ++ fs)
append_within n [] fs p q = q
append_within n (e ∷ es) fs p q = (p.0, append_within n es fs p.1 q)

but_within : (n : ℕ) (skip : Option (ℕ × Edge)) (es : List Edge) → Within n es → Within n (but skip 0 es)
but_within n None es h = h
but_within n (Some s) es h = without_within n s.0 s.1 0 es h

-- the orders with the links that are not left out
pub edges_within : (actors : List Actor) (links : List Link) (skip : Option (ℕ × Edge)) → EndsBelow (length actors) links
    → Within (length actors) (orders actors ++ but skip 0 (map link_edge links))
edges_within actors links skip known =
    append_within (length actors) (orders actors) (but skip 0 (map link_edge links)) (orders_from actors 0 (length actors) (omega arith))
    (but_within (length actors) skip (map link_edge links) (links_within (length actors) links known))
