-- Planning keeps its whole promise.
use Rattle.std.proofs.Common.{◌≡◌, ℕ, ◌+◌, List, [], ◌∷◌, ◌++◌, map, length, take, Ok, Err, Result, sym, refl, ap, ◌∙◌, subst, arith}
use Rattle.std.proofs.lemmas.List.{map-append}
use Rattle.records.specs.declared.fault.Fault.{Fault}
use Rattle.records.specs.declared.tables.Actor.{Actor}
use Rattle.records.specs.declared.tables.Edge.{Edge}
use Rattle.records.specs.declared.tables.Link.{Link}
use Rattle.records.specs.Tables.{link_edge}
use Rattle.paths.specs.declared.delay.Delay.{Delay}
use Rattle.planning.specs.Marks.{numbered, mark_link, marked, sized}
use Rattle.planning.specs.Planning.{Given, Totals, Outcome, tables_check, cycles_check, refused, deadlocked, accepted, unless, back_links, plan_delays, plan_links, plan_totals, planned}
use Rattle.meaning.specs.Promises.{plan_edges, Crossing, BrieflyFull, CostsMean, Found, PlanMeans, Promise}
use Rattle.meaning.proofs.Charges.{costs_mean}
use Rattle.meaning.proofs.Deadlocks.{deadlock_exactly, passes_cycles}
use Rattle.meaning.proofs.Meaning.{briefly_full, plan_means}
use Rattle.meaning.proofs.OrderEdges.{order_if_in, in_if_order}
use Rattle.meaning.proofs.PlanBacks.{alive, needed, crosses, returns, backs_mean}

-- sizes and marks leave the ends and delays of links as they are
sized_edges : (n : ℕ) (delays : List Delay) (ls : List Link) → map link_edge (sized n delays ls) ≡ map link_edge ls
sized_edges n delays [] = refl
sized_edges n delays (l ∷ ls) = ap (λ es. link_edge l ∷ es) (sized_edges n delays ls)

marked_edges : (actors : List Actor) (links : List Edge) (k : ℕ) (ls : List Link) → map link_edge (numbered (mark_link actors links) k ls) ≡ map link_edge ls
marked_edges actors links k [] = refl
marked_edges actors links k (l ∷ ls) = ap (λ es. link_edge l ∷ es) (marked_edges actors links (k + 1) ls)

plan_edges_are : (d : Given) → map link_edge (plan_links d) ≡ plan_edges d
unfolding plan_links
plan_edges_are d =
    let given = take d.given d.links in
    let marks = marked d.actors (plan_edges d) given in
    sized_edges (length d.actors) (plan_delays d) (marks ++ back_links d)
    ∙ map-append link_edge marks (back_links d)
    ∙ ap (λ es. es ++ map link_edge (back_links d)) (marked_edges d.actors (plan_edges d) 0 given)
    ∙ sym (map-append link_edge given (back_links d))

-- an accepted drawing passed the check
passes : {X : Type 0} (check : Result Unit Fault) (refusal : Fault → Outcome X) (go : Outcome X) → ((f : Fault) → (refusal f).answer ≡ Err f)
    → (x : X) → (unless check refusal go).answer ≡ Ok x → check ≡ Ok tt
passes (Ok _) refusal go refuses x e = refl
passes (Err f) refusal go refuses x e = let z : ◌≡◌ {A = ℕ} 0 1 = cc (refuses f) in absurd (omega arith)

pub passes_tables : (d : Given) (t : Totals) → (planned d).answer ≡ Ok t → tables_check d ≡ Ok tt
unfolding planned
passes_tables d t e = passes (tables_check d) (refused d) (unless (cycles_check d) (deadlocked d) (accepted d)) (λ f. refl) t e

plan_is : (d : Given) → tables_check d ≡ Ok tt → cycles_check d ≡ Ok tt → planned d ≡ accepted d
unfolding planned
plan_is d ok free =
    ap (λ r. unless r (refused d) (unless (cycles_check d) (deadlocked d) (accepted d))) ok
    ∙ ap (λ r. unless r (deadlocked d) (accepted d)) free

module _ (d : Given) (t : Totals) (e : (planned d).answer ≡ Ok t) where
  ok : tables_check d ≡ Ok tt
  ok = passes_tables d t e

  free : cycles_check d ≡ Ok tt
  free = passes_cycles d ok t e

  means : PlanMeans d
  means = plan_means d ok (alive d ok free) (needed d ok) (returns d ok) (crosses d ok)

  pub briefly : (i : ℕ) → Crossing d i → BrieflyFull d i
  briefly = briefly_full d ok (alive d ok free) (needed d ok) (returns d ok) (crosses d ok)

  -- what it answered are the totals of the plan
  pub totals : plan_totals d ≡ t
  totals = let same : ◌≡◌ {A = Result Totals Fault} (Ok (plan_totals d)) (Ok t) = sym (ap (λ o. o.answer) (plan_is d ok free)) ∙ e in cc

  costs : CostsMean d t
  costs = subst (CostsMean d) totals (costs_mean d ok (plan_edges_are d))

  found : Found d
  found = record {
    links = ap (λ o. o.links) (plan_is d ok free);
    delays = ap (λ o. o.delays) (plan_is d ok free);
    edges = plan_edges_are d;
  }

pub promise : (d : Given) → Promise d
promise d = record {
  orders = λ e. (order_if_in d.actors e, in_if_order d.actors e);
  deadlock = deadlock_exactly d;
  backs = λ t e. backs_mean d (passes_tables d t e);
  means = means d;
  costs = costs d;
  found = found d;
}
