-- After any calls a run stands as the accepted starts and finishes say, and these follow the orders and the guarded links.
use Rattle.std.proofs.Common.{◌≡◌, ℕ, ◌<◌, List, [], ◌∷◌, ◌++◌, map, length, Ok, Err, Result, sym, refl, ◌∙◌, subst, append_assoc, append-nil, arith}
use lib.Seq.{take-nil}
use Rattle.std.proofs.lemmas.List.{get_or-map, length-map}
use Rattle.records.specs.declared.fault.Fault.{Fault}
use Rattle.records.specs.Tables.{no_link, edge, link_edge}
use Rattle.waits.specs.Events.{Event, Obeys, Follows, chosen}
use Rattle.waits.proofs.Prefixes.{Throughout, one_more, counts_lawful, counts_obeys}
use Rattle.meaning.proofs.Chosen.{in_chosen}
use Rattle.running.specs.declared.Act.{Act}
use Rattle.running.specs.declared.Act.TheVariants.{Start as Starts, Finish as Finishes}
use Rattle.running.specs.declared.Call.{Call}
use Rattle.running.specs.declared.Call.TheVariants.{Start, Finish, Cells}
use Rattle.running.specs.declared.Step.{Step}
use Rattle.running.specs.Rows.{guarded}
use Rattle.running.specs.Runs.{Site, Standing, link_at, act_check, acted, if_accepted, cells_answer}
use Rattle.running.specs.Rehearsals.{done_or_refused, told_or_refused, answer_to, after_call, carried, carried_to}
use Rattle.running.specs.Claims.{brings, brings_if, events}
use Rattle.running.proofs.Allowing.{allowed}
use Rattle.running.proofs.Telling.{Fits, Tells, Right, right}
use Rattle.running.proofs.Acting.{event, acts}

-- the run stands as ys says, and ys was right all along
pub record Carried (s : Site) (ys : List Event) (now : Standing) : Type 0 where
  pub tells : Tells s ys now
  pub rights : Throughout (Right s) ys

pub carried_none : (s : Site) (now : Standing) → Tells s [] now → Carried s [] now
carried_none s now tells = record { tells = tells; rights = λ k. rw take-nil (right s [] now tells) }

module _ (s : Site) (fits : Fits s) where
  -- a start or finish with its answer
  one_act : (ys : List Event) (now : Standing) → Carried s ys now → (act : Act) (a : ℕ) (c : Call) → brings c ≡ event act a ∷ []
      → (r : Result Unit Fault) → act_check s now act a ≡ r → Carried s (ys ++ brings_if (done_or_refused r) c) (if_accepted r (acted s now act a) now)
  one_act ys now so act a c is (Ok _) ok =
      let tells = acts s fits ys now so.tells a act (allowed s now act a ok) in
      rw is (record { tells = tells; rights = one_more (Right s) ys (event act a) so.rights (right s _ _ tells) })
  one_act ys now so act a c is (Err f) ok = rw append-nil so

  -- a call with its answer
  one_call : (ys : List Event) (now : Standing) → Carried s ys now → (c : Call) → Carried s (ys ++ brings_if (answer_to s now c) c) (after_call s now c)
  one_call ys now so (Start a) = one_act ys now so Starts a (Start a) refl (act_check s now Starts a) refl
  one_call ys now so (Finish a) = one_act ys now so Finishes a (Finish a) refl (act_check s now Finishes a) refl
  one_call ys now so (Cells i) = nothing (cells_answer s now i)
    where
      nothing : (r : Result _ Fault) → Carried s (ys ++ brings_if (told_or_refused r) (Cells i)) now
      nothing (Ok c) = rw append-nil so
      nothing (Err f) = rw append-nil so

  pub carried_on : (steps : List Step) (ys : List Event) (now : Standing) → Carried s ys now → Carried s (ys ++ events (carried s now steps)) (carried_to s now steps)
  carried_on [] ys now so = rw append-nil so
  carried_on (x ∷ xs) ys now so =
      subst (λ zs. Carried s zs (carried_to s now (x ∷ xs))) (append_assoc ys (brings_if (answer_to s now x.call) x.call) (events (carried s (after_call s now x.call) xs)))
      (carried_on xs (ys ++ brings_if (answer_to s now x.call) x.call) (after_call s now x.call) (one_call ys now so x.call))

-- what was right all along follows the orders and the guarded links
pub follows_guards : (s : Site) (xs : List Event) → Throughout (Right s) xs
    → Follows s.actors (chosen (λ i. guarded (link_at s i)) (map link_edge s.links)) xs
follows_guards s xs rights = record {
  lawful = counts_lawful xs (λ a k. (rights k).lawful a);
  obeys_orders = λ e o. counts_obeys xs e (λ k. (rights k).orders e o);
  obeys_links = λ e j.
      let (i, h, g, is) = in_chosen (λ i. guarded (link_at s i)) (map link_edge s.links) e j in
      let below : i < length s.links = omega (arith, length-map s.links link_edge) in
      subst (Obeys xs) (sym (get_or-map link_edge s.links i no_link (edge 0 0 0) below) ∙ is)
      (counts_obeys xs (link_edge (link_at s i)) (λ k. (rights k).links i below g));
}
