-- The edges of a drawing that passed the checks of its tables.
use Rattle.std.proofs.Common.{◌≡◌, ℕ, suc, ◌<◌, ◌≤◌, List, [], ◌∷◌, ◌++◌, map, length, get_or, take, Ok, sym, subst, inl, inr, arith}
use Rattle.records.specs.declared.tables.Actor.{Actor}
use Rattle.records.specs.declared.tables.Edge.{Edge}
use Rattle.records.specs.declared.tables.Link.{Link}
use Rattle.records.specs.Tables.{no_link, link_edge}
use Rattle.waits.specs.Events.{Order, In}
use Rattle.waits.proofs.Paths.{in-++}
use Rattle.planning.specs.Edges.{orders}
use Rattle.planning.specs.Planning.{Given, tables_check, base_edges}
use Rattle.planning.proofs.Passing.{Passed, tables_passed}
use Rattle.meaning.proofs.Rising.{has_at, has_map}
use Rattle.meaning.proofs.OrderEdges.{order_if_in}
use Rattle.meaning.proofs.Reaching.{Small}

-- an edge of a list of links, by its place
pub link_place : (ls : List Link) (e : Edge) → In e (map link_edge ls) → (k : ℕ) × (k < length ls) × (e ≡ link_edge (get_or ls k no_link))
link_place [] e i = absurd i
link_place (l ∷ ls) e (inl p) = (0, omega arith, p)
link_place (l ∷ ls) e (inr i) = let r = link_place ls e i in (suc r.0, omega (arith, r.1), r.2)

pub link_in : (ls : List Link) (k : ℕ) → k < length ls → In (link_edge (get_or ls k no_link)) (map link_edge ls)
link_in ls k h = has_map link_edge ls (get_or ls k no_link) (has_at no_link ls k h)

-- an order's edge joins actors, with delay 0 or 1
order_small : (actors : List Actor) (e : Edge) → Order actors e → (e.sender < length actors) × (e.receiver < length actors) × (e.delay ≤ 1000)
order_small actors e (inl x) = (omega (arith, x.0.later, x.0.below), x.0.below, omega (arith, x.1))
order_small actors e (inr x) = (x.0.last_below, x.0.first_below, omega (arith, x.1))

abbrev Fine : ℕ → Edge → Type 0
Fine n e = (e.sender < n) × (e.receiver < n) × (e.delay ≤ 1000)

-- orders together with links that are fine
pub small_with : (actors : List Actor) (ls : List Link) → length actors ≤ 64
    → ((k : ℕ) → k < length ls → Fine (length actors) (link_edge (get_or ls k no_link))) → Small (length actors) (orders actors ++ map link_edge ls)
small_with actors ls few fine =
    let one : (e : Edge) → In e (orders actors ++ map link_edge ls) → Fine (length actors) e = λ e i.
    elim (in-++ e (orders actors) (map link_edge ls) i) [
      | inl j ↦ order_small actors e (order_if_in actors e j)
      | inr j ↦ let r = link_place ls e j in subst (Fine (length actors)) (sym r.2) (fine r.0 r.1)
    ] in
    record { few = few; within = λ e i. ((one e i).0, (one e i).1); short = λ e i. (one e i).2 }

module _ (d : Given) (ok : tables_check d ≡ Ok tt) where
  pub passed : Passed d.actors d.links d.given d.lead (length d.delays) (length d.reach)
  passed = tables_passed d.actors d.links d.given d.lead (length d.delays) (length d.reach) ok

  pub base_small : Small (length d.actors) (base_edges d)
  base_small =
      small_with d.actors (take d.given d.links) passed.few
      (λ k h. ((passed.ends k h).0, (passed.ends k h).1, passed.short k h))
