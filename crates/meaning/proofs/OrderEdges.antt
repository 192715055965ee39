-- The list of a drawing's order edges has exactly the edges of the processors' orders.
use Rattle.std.proofs.Common.{◌≡◌, ℕ, ◌<◌, ◌≤◌, List, length, Some, None, sym, refl, subst, inl, inr, ⊎_elim, arith}
use Rattle.std.specs.List.{range_with_len}
use Rattle.std.proofs.lemmas.Bool.{cases_lt}
use Rattle.records.specs.declared.tables.Actor.{Actor}
use Rattle.records.specs.declared.tables.Edge.{Edge}
use Rattle.records.specs.Tables.{edge, processor_of}
use Rattle.waits.specs.Events.{Next, Round, Order, In}
use Rattle.planning.specs.Edges.{last_on, order_edge, orders}
use Rattle.meaning.proofs.Rising.{map_has, counting_has}
use Rattle.meaning.proofs.Turns.{Last, last_found, entered, from_before, from_last}

module _ (actors : List Actor) where
  order_of : (v : ℕ) → v < length actors → Order actors (order_edge actors v)
  order_of v h =
      ⊎_elim
      (λ (f : (b : ℕ) × (last_on actors (processor_of actors v) v ≡ Some b) × Last actors (processor_of actors v) v b).
      subst (Order actors) (sym (from_before actors v f.0 f.1))
      (inl (
        record {
          below = h;
          later = f.2.below;
          same = f.2.on;
          between = λ w lo hi e. omega (arith, f.2.highest w hi e);
        },
        refl,
      )))
      (λ (none : (last_on actors (processor_of actors v) v ≡ None) × ((w : ℕ) → w < v → processor_of actors w ≡ processor_of actors v → ⊥)).
      ⊎_elim
      (λ (l : (b : ℕ) × (last_on actors (processor_of actors v) (length actors) ≡ Some b) × Last actors (processor_of actors v) (length actors) b).
      subst (Order actors) (sym (from_last actors v l.0 none.0 l.1))
      (inr (
        record {
          last_below = l.2.below;
          first_below = h;
          same = l.2.on;
          ends = λ w hw e. (⊎_elim (λ (lt : w < v). absurd (none.1 w lt e)) (λ (ge : v ≤ w). ge) (cases_lt w v), l.2.highest w hw e);
        },
        refl,
      )))
      (λ (l : (last_on actors (processor_of actors v) (length actors) ≡ None) × ((w : ℕ) → w < length actors → processor_of actors w ≡ processor_of actors v → ⊥)). absurd (l.1 v h refl))
      (last_found actors (processor_of actors v) (length actors)))
      (last_found actors (processor_of actors v) v)

  pub order_if_in : (e : Edge) → In e (orders actors) → Order actors e
  order_if_in e i = let (v, h, q) = map_has (order_edge actors) (range_with_len 0 (length actors)) e i in subst (Order actors) (sym q) (order_of v (omega (arith, counting_has 0 (length actors) v h)))

  next_in : (u v : ℕ) → Next actors u v → In (edge u v 0) (orders actors)
  next_in u v x =
      ⊎_elim
      (λ (f : (b : ℕ) × (last_on actors (processor_of actors v) v ≡ Some b) × Last actors (processor_of actors v) v b).
      let up = f.2.highest u x.later x.same in
      let same : f.0 ≡ u = ⊎_elim (λ (lt : u < f.0). absurd (x.between f.0 lt f.2.below f.2.on)) (λ (ge : f.0 ≤ u). omega arith) (cases_lt u f.0) in
      subst (λ y. In (edge y v 0) (orders actors)) same (entered actors v x.below (edge f.0 v 0) (from_before actors v f.0 f.1)))
      (λ (none : (last_on actors (processor_of actors v) v ≡ None) × ((w : ℕ) → w < v → processor_of actors w ≡ processor_of actors v → ⊥)). absurd (none.1 u x.later x.same))
      (last_found actors (processor_of actors v) v)

  round_in : (u v : ℕ) → Round actors u v → In (edge u v 1) (orders actors)
  round_in u v x =
      ⊎_elim
      (λ (f : (b : ℕ) × (last_on actors (processor_of actors v) v ≡ Some b) × Last actors (processor_of actors v) v b).
      let low = f.2.below in
      absurd (omega (arith, (x.ends f.0 (omega (arith, x.first_below)) f.2.on).0)))
      (λ (none : (last_on actors (processor_of actors v) v ≡ None) × ((w : ℕ) → w < v → processor_of actors w ≡ processor_of actors v → ⊥)).
      ⊎_elim
      (λ (l : (b : ℕ) × (last_on actors (processor_of actors v) (length actors) ≡ Some b) × Last actors (processor_of actors v) (length actors) b).
      let same : l.0 ≡ u = omega (arith, l.2.highest u x.last_below x.same, (x.ends l.0 l.2.below l.2.on).1) in
      subst (λ y. In (edge y v 1) (orders actors)) same (entered actors v x.first_below (edge l.0 v 1) (from_last actors v l.0 none.0 l.1)))
      (λ (l : (last_on actors (processor_of actors v) (length actors) ≡ None) × ((w : ℕ) → w < length actors → processor_of actors w ≡ processor_of actors v → ⊥)). absurd (l.1 v x.first_below refl))
      (last_found actors (processor_of actors v) (length actors)))
      (last_found actors (processor_of actors v) v)

  pub in_if_order : (e : Edge) → Order actors e → In e (orders actors)
  in_if_order e (inl x) = subst (λ d. In (edge e.sender e.receiver d) (orders actors)) (sym x.1) (next_in e.sender e.receiver x.0)
  in_if_order e (inr x) = subst (λ d. In (edge e.sender e.receiver d) (orders actors)) (sym x.1) (round_in e.sender e.receiver x.0)
