-- The search for the actor before another in its processor's order, and the edge that it gives.
use Rattle.std.proofs.Common.{cond, eqb, ◌≡◌, ◌≢◌, ℕ, zero, suc, ◌<◌, ◌≤◌, List, length, take, Some, None, Option, sym, refl, ap, ◌∙◌, ⊎_elim, arith, eq-eqb, ne_eqb}
use Rattle.std.proofs.lemmas.Bool.{cases_lt, cond-true, cond-false}
use Rattle.std.proofs.lemmas.List.{get_or-take, length-take-le}
use Rattle.records.specs.declared.tables.Actor.{Actor}
use Rattle.std.specs.Option.{unwrap_or}
use Rattle.records.specs.Tables.{edge, no_actor, processor_of}
use Rattle.planning.specs.Edges.{last_on, edge_into, order_edge}

module _ (actors : List Actor) (p : ℕ) where
  last_nowhere : (k : ℕ) → ((j : ℕ) → j < k → processor_of actors j ≢ p) → last_on actors p k ≡ None
  last_nowhere zero others = refl
  last_nowhere (suc k) others =
      cond-false _ _ _ (ne_eqb (processor_of actors k) p (others k (omega arith))) ∙ last_nowhere k (λ j h. others j (omega arith))

  last_here : (k i : ℕ) → i < k → processor_of actors i ≡ p → ((j : ℕ) → i < j → j < k → processor_of actors j ≢ p) → last_on actors p k ≡ Some i
  last_here zero i h here others = absurd (omega arith)
  last_here (suc k) i h here others =
      ⊎_elim
      (λ (b : i < k). cond-false _ _ _ (ne_eqb (processor_of actors k) p (others k b (omega arith))) ∙ last_here k i b here (λ j l m. others j l (omega arith)))
      (λ (b : k ≤ i).
      let e : k ≡ i = omega arith in
      cond-true _ _ _ (eq-eqb (processor_of actors k) p (ap (processor_of actors) e ∙ here)) ∙ ap Some e)
      (cases_lt i k)

  -- a search for the last of the actors that is on the processor
  pub last_found : (r : Option ℕ) → (r ≡ None → (j : ℕ) → j < length actors → processor_of actors j ≢ p)
      → ((i : ℕ) → r ≡ Some i → (i < length actors) × (processor_of actors i ≡ p) × ((j : ℕ) → i < j → j < length actors → processor_of actors j ≢ p))
      → r ≡ last_on actors p (length actors)
  last_found None none some = sym (last_nowhere (length actors) (none refl))
  last_found (Some i) none some = let f = some i refl in sym (last_here (length actors) i f.0 f.1 f.2)

  last_among : (v k : ℕ) → k ≤ v → last_on (take v actors) p k ≡ last_on actors p k
  last_among v zero h = refl
  last_among v (suc k) h =
      ap (λ a. cond (eqb a.processor p) (Some k) (last_on (take v actors) p k)) (get_or-take v actors k no_actor (omega arith))
      ∙ ap (cond (eqb (processor_of actors k) p) (Some k)) (last_among v k (omega arith))

  -- among the first v of them
  pub last_before : (v : ℕ) → v ≤ length actors → last_on (take v actors) p (length (take v actors)) ≡ last_on actors p v
  last_before v h = ap (last_on (take v actors) p) (length-take-le v actors h) ∙ last_among v v (omega arith)

pub order_edge_is : (actors : List Actor) (v : ℕ) (before last : Option ℕ)
    → before ≡ last_on actors (processor_of actors v) v → last ≡ last_on actors (processor_of actors v) (length actors)
    → edge_into v before last ≡ order_edge actors v
unfolding order_edge
order_edge_is actors v before last b l =
    ap (λ x. edge_into v x last) b ∙ ap (edge_into v (last_on actors (processor_of actors v) v)) l

first_edge : (v : ℕ) (last : Option ℕ) → edge (unwrap_or last v) v 1 ≡ edge_into v None last
first_edge v (Some u) = refl
first_edge v None = refl

-- the edge into the first actor of its processor
pub order_edge_first : (actors : List Actor) (v from : ℕ) (last : Option ℕ)
    → None ≡ last_on actors (processor_of actors v) v → last ≡ last_on actors (processor_of actors v) (length actors)
    → from ≡ unwrap_or last v → edge from v 1 ≡ order_edge actors v
order_edge_first actors v from last none l is = ap (λ u. edge u v 1) is ∙ first_edge v last ∙ order_edge_is actors v None last none l
