-- Every run on the plan of an accepted drawing keeps the claim, and the plan opens soundly.
use Rattle.std.proofs.Common.{◌≡◌, ℕ, suc, ◌+◌, ◌<◌, false, List, [], ◌∷◌, ◌++◌, map, length, take, Ok, sym, refl, ap, ◌∙◌, subst, append_assoc, arith}
use Rattle.waits.specs.Events.{Event, Follows}
use Rattle.planning.specs.Planning.{Given, Totals, plan_links, planned}
use Rattle.meaning.specs.Promises.{waited_edges, Cross, Crossing, Brief}
use Rattle.running.specs.declared.Step.{Step}
use Rattle.running.specs.declared.Answer.TheVariants.{Told}
use Rattle.running.specs.declared.Call.TheVariants.{Cells}
use Rattle.running.specs.Rows.{guarded}
use Rattle.running.specs.Runs.{Site, Standing, site, link_at}
use Rattle.running.specs.Rehearsals.{unasked, told_or_refused, answered, after_call, carried, carried_to, plan_site, plan_opened}
use Rattle.running.specs.Claims.{brings_if, events, level_at, call, Law, Fills, buffer_at, TellsBuffer, Claim}
use Rattle.running.proofs.Telling.{Tells}
use Rattle.running.proofs.Carrying.{Carried, carried_none, carried_on}
use Rattle.running.proofs.Accepting.{Fair, all_accepted}
use Rattle.meaning.proofs.Promised.{briefly}
use Rattle.running.proofs.PlanLinks.{means, edges_long}
use Rattle.running.proofs.Opening.{site_is, fits, stands, opened_stands, unsound_row}
use Rattle.running.proofs.Others.{calls_stand}
use Rattle.running.proofs.Unsound.{stepped, all_refused, never_moves}
use Rattle.running.proofs.Fairness.{fair}
use Rattle.running.proofs.Law.{follows_all, guards_right, not_overfull, tells_buffer}
pub use Rattle.running.proofs.Opening.{opens}

carried_more : (s : Site) (xs ys : List Step) (now : Standing) → carried s now (xs ++ ys) ≡ carried s now xs ++ carried s (carried_to s now xs) ys
carried_more s [] ys now = refl
carried_more s (x ∷ xs) ys now = ap (λ zs. answered s now x ∷ zs) (carried_more s xs ys (after_call s now x.call))

events_more : (xs ys : List Step) → events (xs ++ ys) ≡ events xs ++ events ys
events_more [] ys = refl
events_more (x ∷ xs) ys = ap (λ zs. brings_if x.answer x.call ++ zs) (events_more xs ys) ∙ sym (append_assoc (brings_if x.answer x.call) (events xs) (events ys))

take_past : {X : Type 0} (ys xs : List X) (k : ℕ) → take (length ys + k) (ys ++ xs) ≡ ys ++ take k xs
take_past [] xs k = ap (λ n. take n xs) (let z : 0 + k ≡ k = omega arith in z)
take_past (y ∷ ys) xs k =
    ap (λ n. take n (y ∷ (ys ++ xs))) (let z : suc (length ys) + k ≡ suc (length ys + k) = omega arith in z)
    ∙ ap (λ zs. y ∷ zs) (take_past ys xs k)

module _ (d : Given) (t : Totals) (e : (planned d).answer ≡ Ok t) where
  module _ (now : Standing) (tells : Tells (site d.actors (plan_links d)) [] now) where
    -- the run after these calls
    after : (steps : List Step) → Carried (site d.actors (plan_links d)) (events (carried (plan_site d t) now steps)) (carried_to (plan_site d t) now steps)
    after steps =
        subst (λ s. Carried (site d.actors (plan_links d)) (events (carried s now steps)) (carried_to s now steps)) (sym (site_is d t e))
        (carried_on (site d.actors (plan_links d)) (fits d t e) steps [] now (carried_none (site d.actors (plan_links d)) now tells))

    law : (steps : List Step) → Law d (carried (plan_site d t) now steps) (carried_to (plan_site d t) now steps).row
    law steps =
        let xs = events (carried (plan_site d t) now steps) in
        let there = carried_to (plan_site d t) now steps in
        record {
          follows = follows_all d t e xs there (after steps);
          guards = guards_right d t e xs there (after steps);
          never_overfull = not_overfull d t e xs there (after steps);
        }

    cells : (steps : List Step) (i : ℕ) → Cross d i → TellsBuffer d t (carried_to (plan_site d t) now steps) (events (carried (plan_site d t) now steps)) i
    cells steps i x = rw (site_is d t e) (tells_buffer d t e _ _ (rw (site_is d t e) at (after steps)) i x)

    told : (steps : List Step) (i : ℕ) → Cross d i → carried (plan_site d t) now (steps ++ (unasked (Cells i) ∷ []))
        ≡ carried (plan_site d t) now steps ++ (record { call = Cells i; answer = Told (buffer_at d (events (carried (plan_site d t) now steps)) i) } ∷ [])
    told steps i x =
        carried_more (plan_site d t) steps (unasked (Cells i) ∷ []) now
        ∙ ap (λ r. carried (plan_site d t) now steps ++ (stepped (Cells i) (told_or_refused r) ∷ [])) (cells steps i x)

    accepts : (steps : List Step) (xs : List Event) → Follows d.actors (waited_edges d) (events (carried (plan_site d t) now steps) ++ xs)
        → Brief d 1000000000 (events (carried (plan_site d t) now steps) ++ xs)
        → events (carried (plan_site d t) now (steps ++ map call xs)) ≡ events (carried (plan_site d t) now steps) ++ xs
    accepts steps xs follows brief =
        let ys = events (carried (plan_site d t) now steps) in
        let there = carried_to (plan_site d t) now steps in
        ap events (carried_more (plan_site d t) steps (map call xs) now)
        ∙ events_more (carried (plan_site d t) now steps) (carried (plan_site d t) there (map call xs))
        ∙ ap (λ zs. ys ++ zs) (subst (λ s. events (carried s there (map call xs)) ≡ xs) (sym (site_is d t e))
        (all_accepted (site d.actors (plan_links d)) (fits d t e) xs ys there (after steps).tells
        (λ k. subst (Fair (site d.actors (plan_links d))) (take_past ys xs k) (fair d t e (ys ++ xs) follows brief (length ys + k)))))

    fills : (i : ℕ) → Crossing d i → Fills d t now i
    fills i x =
        let (xs, follows, brief, full) = briefly d t e i x in
        record {
          list = xs;
          all_accepted = accepts [] xs follows (record { few = λ a. omega (arith, brief.few a); outside = brief.outside });
          full = omega arith;
        }

  pub claim : Claim d t
  claim = record {
    opens = opens d t e;
    every_run = λ largest row sound.
        let now = plan_opened largest d t row in
        let tells = stands d t e largest row sound in
        record {
          law = law now tells;
          cells = cells now tells;
          told = told now tells;
          others = λ steps i other.
              let without : i < length (plan_links d) → guarded (link_at (site d.actors (plan_links d)) i) ≡ false = λ h. other (omega (arith, edges_long d t e)) in
              subst (λ s. level_at (carried_to s now steps).row i ≡ level_at row i) (sym (site_is d t e))
              (calls_stand (site d.actors (plan_links d)) i without steps now ∙ opened_stands d t e largest row sound i without);
          accepts = accepts now tells;
          fills = fills now tells;
        };
    unsound = λ largest row f fault. record {
      refuses = all_refused (plan_site d t) (plan_opened largest d t row) f fault;
      stands = λ steps. ap (λ (n : Standing). n.row) (never_moves (plan_site d t) (plan_opened largest d t row) f fault steps) ∙ unsound_row d t e largest row f fault;
    };
    enough = (means d t e).enough;
    fewest = (means d t e).fewest;
  }
