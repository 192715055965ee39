-- What the law of a run says of a plan's run that stands as its starts and finishes say.
use Rattle.std.proofs.Common.{◌≡◌, ℕ, ◌+◌, ◌-◌, ◌%◌, ◌<◌, ◌≤◌, true, leb, List, length, get_or, Ok, sym, refl, subst, arith}
use lib.Seq.{take-length}
use Rattle.std.proofs.lemmas.Bool.{or_from, lt-leb, le-ltb}
use Rattle.records.specs.declared.tables.Edge.{Edge}
use Rattle.records.specs.Tables.{no_link}
use Rattle.waits.specs.Events.{Event, starts, finishes, Obeys, Follows, place, chosen}
use Rattle.planning.specs.Planning.{Given, Totals, plan_links, planned}
use Rattle.meaning.specs.Promises.{plan_edges, size_at, waited, waited_edges, Cross, Crossing}
use Rattle.meaning.proofs.Meaning.{at_place}
use Rattle.meaning.proofs.Promised.{promise}
use Rattle.running.specs.declared.Cells.{Cells}
use Rattle.running.specs.Runs.{Standing, site, cells_answer}
use Rattle.running.specs.Claims.{holds, level_at, GuardsRight}
use Rattle.running.proofs.Carrying.{Carried, follows_guards}
use Rattle.running.proofs.PlanLinks.{means, edges_long, link_place, ends, cross_below, cross_mark}

module _ (d : Given) (t : Totals) (e : (planned d).answer ≡ Ok t) (xs : List Event) (now : Standing) (so : Carried (site d.actors (plan_links d)) xs now) where
  -- the kept and back links are followed, and so all links
  follows_waited : Follows d.actors (waited_edges d) xs
  follows_waited = subst (λ es. Follows d.actors (chosen (waited d) es) xs) ((promise d).found t e).edges (follows_guards (site d.actors (plan_links d)) xs so.rights)

  pub follows_all : Follows d.actors (plan_edges d) xs
  follows_all = record {
    lawful = follows_waited.lawful;
    obeys_orders = follows_waited.obeys_orders;
    obeys_links = λ f j. let (i, h, is) = at_place (plan_edges d) f j in subst (Obeys xs) is ((means d t e).enough i h xs follows_waited);
  }

  pub guards_right : (i : ℕ) → i < length (plan_edges d) → waited d i ≡ true → GuardsRight d xs now.row i
  guards_right i h g =
      let below : i < length (plan_links d) = omega (arith, edges_long d t e) in
      let guard = so.tells.guard i below g in
      record {
        size = guard.size;
        count = subst (λ (f : Edge). (level_at now.row i).count + starts f.receiver xs ≡ f.delay + finishes f.sender xs) (sym (link_place d t e i below)) guard.count;
      }

  pub not_overfull : (i : ℕ) → Crossing d i → holds d i xs ≤ size_at d i
  not_overfull i x = let w = rw take-length at ((means d t e).never_overfull i x xs follows_waited (length xs)) in omega arith

  -- the buffer of a link whose edge is f
  abbrev buffer_of : ℕ → Edge → Cells
  buffer_of i f = record {
    held = (f.delay + starts f.sender xs) - finishes f.receiver xs;
    write = (f.delay + starts f.sender xs) % size_at d i;
    read = starts f.receiver xs % size_at d i;
  }

  pub tells_buffer : (i : ℕ) → Cross d i → cells_answer (site d.actors (plan_links d)) now i ≡ Ok (buffer_of i (place (plan_edges d) i))
  unfolding cells_answer
  tells_buffer i x =
      let l = get_or (plan_links d) i no_link in
      let h = cross_below d t e i x in
      let below : i < length (plan_links d) = omega (arith, edges_long d t e) in
      let is = link_place d t e i below in
      let (hu, hv) = subst (λ (f : Edge). (f.sender < length d.actors) × (f.receiver < length d.actors)) is (ends d t e i h) in
      let told = or_from (leb (length (plan_links d)) i) _ (lt-leb (length (plan_links d)) i below) (le-ltb 1 l.mark (cross_mark d t e i x)) in
      let sender = so.tells.entry l.sender hu in
      let receiver = so.tells.entry l.receiver hv in
      subst (λ f. cells_answer (site d.actors (plan_links d)) now i ≡ Ok (buffer_of i f)) (sym is)
      (rw (so.tells.sound, told, sender.begun, receiver.done, receiver.begun) refl)
