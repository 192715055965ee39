-- A list that follows a plan's kept and back links and starts no actor too often is one that a run on the plan accepts.
use Rattle.std.proofs.Common.{◌≡◌, ℕ, ◌+◌, ◌<◌, ◌≤◌, List, length, take, drop, Ok, ap, subst, inl, inr, arith}
use Rattle.std.proofs.lemmas.List.{take-append-drop}
use Rattle.std.proofs.lemmas.Bool.{false≢true}
use Rattle.records.specs.declared.tables.Edge.{Edge}
use Rattle.records.specs.Tables.{edge}
use Rattle.waits.specs.Events.{Event, starts, finishes, Path, place, Follows}
use Rattle.waits.proofs.Counts.{starts-++, finishes-++}
use Rattle.waits.proofs.Prefixes.{ObeysNow, lawful_counts, obeys_counts}
use Rattle.waits.proofs.Waits.{waits_along_path}
use Rattle.planning.specs.Edges.{orders}
use Rattle.planning.specs.Planning.{Given, Totals, plan_links, planned}
use Rattle.meaning.specs.Promises.{plan_edges, size_at, waited, waited_edges, Crossing, Brief}
use Rattle.meaning.proofs.Chosen.{chosen_in}
use Rattle.meaning.proofs.OrderEdges.{order_if_in}
use Rattle.meaning.proofs.Turns.{later_path, round_path}
use Rattle.running.specs.Runs.{site}
use Rattle.running.proofs.Accepting.{Fair}
use Rattle.running.proofs.PlanLinks.{means, edges_long, link_place, kinds}

-- no count falls along a list
fewer : (xs : List Event) (x k : ℕ) → (starts x (take k xs) ≤ starts x xs) × (finishes x (take k xs) ≤ finishes x xs)
fewer xs x k =
    let whole = take-append-drop k xs in (
      omega (arith, starts-++ x (take k xs) (drop k xs), ap (starts x) whole),
      omega (arith, finishes-++ x (take k xs) (drop k xs), ap (finishes x) whole),
    )

module _ (d : Given) (t : Totals) (e : (planned d).answer ≡ Ok t) (xs : List Event) (follows : Follows d.actors (waited_edges d) xs) where
  -- a path along the orders makes wait
  along : {u v n : ℕ} → Path (orders d.actors) u v n → (k : ℕ) → ObeysNow (edge u v n) (take k xs)
  along {u} {v} {n} p k =
      obeys_counts xs (edge u v n) (waits_along_path p n (omega arith) xs follows.lawful (λ f i. follows.obeys_orders f (order_if_in d.actors f i))) k

  pub fair : Brief d 1000000000 xs → (k : ℕ) → Fair (site d.actors (plan_links d)) (take k xs)
  fair brief k = record {
    lawful = λ a. lawful_counts xs follows.lawful a k;
    after = λ u v l h same. omega (arith, along (later_path d.actors u v l h same) k);
    round = λ u v hu hv same. along (round_path d.actors u v hu hv same) k;
    links = λ i h g.
        let below : i < length (plan_edges d) = omega (arith, edges_long d t e) in
        subst (λ f. ObeysNow f (take k xs)) (link_place d t e i h) (obeys_counts xs (place (plan_edges d) i) (follows.obeys_links (place (plan_edges d) i) (chosen_in (waited d) (plan_edges d) i below g)) k);
    room = λ i h g.
        let below : i < length (plan_edges d) = omega (arith, edges_long d t e) in
        let crossing : Crossing d i = elim (kinds d t e i below) [ inl local ↦ absurd (false≢true (rw local at g)) | inr x ↦ x ] in
        subst (λ (f : Edge). f.delay + starts f.sender (take k xs) ≤ finishes f.receiver (take k xs) + size_at d i) (link_place d t e i h)
        ((means d t e).never_overfull i crossing xs follows k);
    few = λ x. omega (arith, fewer xs x k, brief.few x);
    outside = λ x h. omega (arith, fewer xs x k, brief.outside x h);
  }
