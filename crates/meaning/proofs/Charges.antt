-- What the costs on a slip are: before planning by groups, afterwards by kept and back links.
use Rattle.std.proofs.Common.{◌≡◌, ℕ, zero, suc, ◌+◌, ◌*◌, ◌<◌, Bool, true, false, cond, ◌||◌, eqb, List, [], ◌∷◌, map, length, get_or, take, Ok, sym, refl, ap, ◌∙◌, ⊎_elim, arith}
use Rattle.std.proofs.lemmas.List.{length-map}
use Rattle.std.proofs.lemmas.Bool.{cases_Bool, eqb-true, eqb-false, both_ways}
use Rattle.records.specs.declared.tables.Actor.{Actor}
use Rattle.records.specs.declared.tables.Edge.{Edge}
use Rattle.records.specs.declared.tables.Link.{Link}
use Rattle.records.specs.Tables.{no_link, link_edge}
use Rattle.waits.specs.Counting.{count}
use Rattle.planning.specs.Costs.{link_cost_before, cost_before, cost_after}
use Rattle.planning.specs.Groups.{same_group}
use Rattle.planning.specs.Marks.{local}
use Rattle.planning.specs.Planning.{Given, tables_check, base_edges, plan_links, plan_totals}
use Rattle.planning.specs.Tables.{least_delays}
use Rattle.meaning.specs.Costing.{Local, LinkCosts, Costs}
use Rattle.meaning.specs.Promises.{plan_edges, waited, CostsMean}
use Rattle.meaning.proofs.Costs.{plan_costs_no_more}
use Rattle.meaning.proofs.Drawn.{passed, base_small}
use Rattle.meaning.proofs.Groups.{group_decides}
use Rattle.meaning.proofs.Reaching.{Small}

-- how many pass, counted from the other end
count_first : (C : ℕ → Bool) (k : ℕ) → count C (suc k) ≡ cond (C 0) 1 0 + count (λ i. C (suc i)) k
count_first C zero = refl
count_first C (suc k) = let rest = count_first C k in omega arith

-- the numbers of the links with mark 1 or 3
abbrev paid : List Link → ℕ → Bool
paid ls i = eqb (get_or ls i no_link).mark 1 || eqb (get_or ls i no_link).mark 3

twice : (b : Bool) → cond b 2 0 ≡ 2 * cond b 1 0
twice true = refl
twice false = refl

cost_counted : (ls : List Link) → cost_after ls ≡ 2 * count (paid ls) (length ls)
cost_counted [] = refl
cost_counted (l ∷ ls) = omega (arith, cost_counted ls, count_first (paid (l ∷ ls)) (length ls), twice (paid (l ∷ ls) 0))

module _ (actors : List Actor) (es : List Edge) (small : Small (length actors) es) where
  link_costs : (l : Link) → l.sender < length actors → l.receiver < length actors
      → LinkCosts actors es (link_edge l) (link_cost_before actors (length actors) (least_delays (length actors) es) l)
  link_costs l hs hr =
      let decides = group_decides (length actors) es small l.sender l.receiver hs hr in
      ⊎_elim
      (λ (t : local actors (link_edge l) ≡ true).
      let same = eqb-true _ _ t in rw t (record { local = λ _. refl; within = λ cross _. absurd (cross same); between = λ cross _. absurd (cross same) }))
      (λ (f : local actors (link_edge l) ≡ false).
      let cross : Local actors (link_edge l) → ⊥ = eqb-false _ _ f in
      ⊎_elim
      (λ (t : same_group (length actors) (least_delays (length actors) es) l.sender l.receiver ≡ true).
      rw (f, t) (record { local = λ same. absurd (cross same); within = λ _ _. refl; between = λ _ apart. absurd (apart (decides.0 t)) }))
      (λ (n : same_group (length actors) (least_delays (length actors) es) l.sender l.receiver ≡ false).
      rw (f, n) (record { local = λ same. absurd (cross same); within = λ _ one. absurd (both_ways _ n (decides.1 one)); between = λ _ _. refl }))
      (cases_Bool (same_group (length actors) (least_delays (length actors) es) l.sender l.receiver)))
      (cases_Bool (local actors (link_edge l)))

  all_costs : (ls : List Link) → ((k : ℕ) → k < length ls → ((get_or ls k no_link).sender < length actors) × ((get_or ls k no_link).receiver < length actors))
      → Costs actors es (map link_edge ls) (cost_before actors (length actors) (least_delays (length actors) es) ls)
  all_costs [] ends = refl
  all_costs (l ∷ ls) ends = (
    link_cost_before actors (length actors) (least_delays (length actors) es) l,
    cost_before actors (length actors) (least_delays (length actors) es) ls,
    link_costs l (ends 0 (omega arith)).0 (ends 0 (omega arith)).1,
    all_costs ls (λ k h. ends (suc k) (omega arith)),
    refl,
  )

pub costs_mean : (d : Given) → tables_check d ≡ Ok tt → map link_edge (plan_links d) ≡ plan_edges d → CostsMean d (plan_totals d)
unfolding plan_totals
costs_mean d ok edges = record {
  before = all_costs d.actors (base_edges d) (base_small d ok) (take d.given d.links) (λ k h. (passed d ok).ends k h);
  after = cost_counted (plan_links d) ∙ ap (λ k. 2 * count (waited d) k) (sym (length-map (plan_links d) link_edge) ∙ ap length edges);
  no_dearer = plan_costs_no_more d (base_small d ok);
}
