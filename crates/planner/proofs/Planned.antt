-- The plan of a drawing that passed the survey.
use Rattle.std.proofs.Common.{◌≡◌, ℕ, ◌+◌, ◌-◌, ◌≤◌, List, ◌++◌, map, length, take, drop, Ok, Err, Result, sym, refl, ap, ◌∙◌, arith}
use Rattle.std.proofs.lemmas.List.{append_assoc, length-append, length-map, length-take-le, take_at, drop_at}
use Rattle.records.specs.declared.fault.Fault.{Fault}
use Rattle.records.specs.declared.tables.Link.{Link}
use Rattle.records.specs.Tables.{link_edge}
use Rattle.paths.specs.declared.delay.Delay.{Delay}
use Rattle.paths.specs.declared.reach.Reach.{Reach}
use Rattle.planning.specs.Costs.{cost_before, cost_after}
use Rattle.planning.specs.Marks.{mark_link, marked, size_link, sized}
use Rattle.planning.specs.Planning.{Given, Outcome, Totals, over, base_delays, back_links, all_links, plan_delays, plan_links, plan_totals, tables_check, cycles_check, refused, deadlocked, live, accepted, unless, surveyed, planned}
use Rattle.planner.specs.Steps.{with_backs, delays_over, finished}
use Rattle.planning.proofs.Numbered.{length_numbered}
use Rattle.planning.proofs.Passing.{err_not_ok}

-- a table over a table of the same length
pub over_over : {M : Type 0} (table earlier cells : List M) → length table ≡ length earlier → over table (over earlier cells) ≡ over table cells
over_over table earlier cells e =
    ap (λ k. table ++ drop k (over earlier cells)) e
    ∙ ap (λ xs. table ++ xs) (drop_at earlier (drop (length earlier) cells) (length earlier) refl)
    ∙ ap (λ k. table ++ drop k cells) (sym e)

module _ (d : Given) (room : d.given ≤ length d.links) where
  given_long : length (take d.given d.links) ≡ d.given
  given_long = length-take-le d.given d.links room

  -- the links with the back links after the given ones
  module _ (all : ℕ) (L : List Link) (end : all ≡ d.given + length (back_links d)) (is : L ≡ with_backs d.links d.given (back_links d)) where
    pub front_links : take all L ≡ all_links d
    front_links =
        let rest : List Link = drop (d.given + length (back_links d)) d.links in
        ap (take all) (is ∙ sym (append_assoc (take d.given d.links) (back_links d) rest))
        ∙ take_at (all_links d) rest all (length-append (take d.given d.links) (back_links d) ∙ omega (arith, given_long))

    pub later_links : drop all L ≡ drop all d.links
    later_links =
        let rest : List Link = drop (d.given + length (back_links d)) d.links in
        ap (drop all) (is ∙ sym (append_assoc (take d.given d.links) (back_links d) rest))
        ∙ drop_at (all_links d) rest all (length-append (take d.given d.links) (back_links d) ∙ omega (arith, given_long))
        ∙ ap (λ k. drop k d.links) (sym end)

    pub finished_links : finished d.actors d.given (take all L) ≡ plan_links d
    unfolding plan_links
    finished_links =
        let A = d.actors in
        let n = length d.actors in
        let es = map link_edge (all_links d) in
        ap (finished A d.given) front_links
        ∙ ap (λ ls. sized n (plan_delays d) (marked A es ls ++ drop d.given (all_links d))) (take_at (take d.given d.links) (back_links d) d.given given_long)
        ∙ ap (λ ls. sized n (plan_delays d) (marked A es (take d.given d.links) ++ ls)) (drop_at (take d.given d.links) (back_links d) d.given given_long)

    plan_long : length (plan_links d) ≡ all
    unfolding plan_links
    plan_long =
        let es = map link_edge (all_links d) in
        let marks : List Link = marked d.actors es (take d.given d.links) in
        length-map (marks ++ back_links d) (size_link (length d.actors) (plan_delays d)) ∙ length-append marks (back_links d)
        ∙ omega (arith, length_numbered (mark_link d.actors es) 0 (take d.given d.links), given_long, end)

    pub links_planned : (after : List Link) → after ≡ finished d.actors d.given (take all L) ++ drop all L → after ≡ over (plan_links d) d.links
    links_planned after e =
        e ∙ ap (λ ls. ls ++ drop all L) finished_links ∙ ap (λ ls. plan_links d ++ ls) later_links
        ∙ ap (λ k. plan_links d ++ drop k d.links) (sym plan_long)

    pub delays_planned : (after : List Delay) → after ≡ over (delays_over d.actors (take all L)) d.delays → after ≡ over (plan_delays d) d.delays
    delays_planned after e = e ∙ ap (λ ls. over (delays_over d.actors ls) d.delays) front_links

    pub totals_planned : (before after : ℕ) → before ≡ cost_before d.actors (length d.actors) (base_delays d) (take d.given d.links)
        → after ≡ cost_after (finished d.actors d.given (take all L))
        → ◌≡◌ {A = Totals} (record { actors = length d.actors; given = d.given; back = all - d.given; lead = d.lead; before = before; after = after }) (plan_totals d)
    unfolding plan_totals
    totals_planned before after b a =
        let back : all - d.given ≡ length (back_links d) = omega (arith, end) in
        ap (λ k. record { actors = length d.actors; given = d.given; back = k; lead = d.lead; before = before; after = after }) back
        ∙ ap (λ k. record { actors = length d.actors; given = d.given; back = length (back_links d); lead = d.lead; before = k; after = after }) b
        ∙ ap (λ k. record { actors = length d.actors; given = d.given; back = length (back_links d); lead = d.lead; before = cost_before d.actors (length d.actors) (base_delays d) (take d.given d.links); after = k }) (a ∙ ap cost_after finished_links)

-- how planning ends where the survey refuses
pub record SameEnd (d : Given) (f : Fault) (s : Outcome Unit) (p : Outcome Totals) : Type 0 where
  pub answer : p.answer ≡ Err f
  pub links : p.links ≡ d.links
  pub delays : p.delays ≡ s.delays
  pub reach : p.reach ≡ s.reach

same_end : (d : Given) (f : Fault) (tables cycles : Result Unit Fault)
    → Err f ≡ (unless tables (refused d) (unless cycles (deadlocked d) (live d))).answer
    → SameEnd d f (unless tables (refused d) (unless cycles (deadlocked d) (live d))) (unless tables (refused d) (unless cycles (deadlocked d) (accepted d)))
same_end d f (Err x) cycles e = record { answer = let same : x ≡ f = cc in ap Err same; links = refl; delays = refl; reach = refl }
same_end d f (Ok u) (Err x) e = record { answer = let same : x ≡ f = cc in ap Err same; links = refl; delays = refl; reach = refl }
same_end d f (Ok u) (Ok v) e = absurd (err_not_ok f e)

pub planned_refused : (d : Given) (f : Fault) → Err f ≡ (surveyed d).answer → SameEnd d f (surveyed d) (planned d)
unfolding surveyed planned
planned_refused d f e = same_end d f (tables_check d) (cycles_check d) e

both_live : (d : Given) (tables cycles : Result Unit Fault)
    → Ok tt ≡ (unless tables (refused d) (unless cycles (deadlocked d) (live d))).answer
    → (unless tables (refused d) (unless cycles (deadlocked d) (live d)) ≡ live d) × (unless tables (refused d) (unless cycles (deadlocked d) (accepted d)) ≡ accepted d)
both_live d (Err x) cycles e = absurd (err_not_ok x (sym e))
both_live d (Ok u) (Err x) e = absurd (err_not_ok x (sym e))
both_live d (Ok u) (Ok v) e = (refl, refl)

-- how planning goes on where it does not
pub planned_live : (d : Given) → Ok tt ≡ (surveyed d).answer → (surveyed d ≡ live d) × (planned d ≡ accepted d)
unfolding surveyed planned
planned_live d e = both_live d (tables_check d) (cycles_check d) e

-- what the workspaces hold does not matter
pub totals_whatever : (d : Given) (delays : List Delay) (reach : List Reach)
    → plan_totals (record { actors = d.actors; links = d.links; given = d.given; lead = d.lead; delays = delays; reach = reach }) ≡ plan_totals d
unfolding plan_totals plan_links
totals_whatever d delays reach = refl

pub links_whatever : (d : Given) (delays : List Delay) (reach : List Reach)
    → plan_links (record { actors = d.actors; links = d.links; given = d.given; lead = d.lead; delays = delays; reach = reach }) ≡ plan_links d
unfolding plan_links
links_whatever d delays reach = refl
