-- The actor that the planner lets stand for a group has its least estimate, and is the lowest that has it.
use Rattle.std.proofs.Common.{◌≡◌, ℕ, zero, suc, ◌<◌, ◌≤◌, List, length, sym, subst, inl, inr, arith}
use Rattle.std.proofs.lemmas.Bool.{cases_eq, cond_both, and_parts, and_cases, ltb-true, ltb-false, both_ways}
use Rattle.records.specs.declared.tables.Actor.{Actor}
use Rattle.records.specs.declared.tables.Edge.{Edge}
use Rattle.planning.specs.Groups.{stands_better, stand_below, stand_in}
use Rattle.planning.specs.Tables.{least_delays}
use Rattle.meaning.specs.Components.{Reaches, Group, Lowest, Stands, estimate_of}
use Rattle.meaning.proofs.Groups.{group_decides}
use Rattle.meaning.proofs.Reaching.{Small}

module _ (actors : List Actor) (es : List Edge) (small : Small (length actors) es) (u : ℕ) (hu : u < length actors) where
  abbrev est : ℕ → ℕ
  est x = estimate_of actors x

  -- w stands for the group of u as far as its actors below k are seen
  record StandsBelow (k w : ℕ) : Type 0 where
    pub below : w < length actors
    pub inside : Group es u w
    pub least : (x : ℕ) → x < k → x < length actors → Group es u x → est w ≤ est x
    pub lowest : (x : ℕ) → x < k → x < length actors → Group es u x → est x ≡ est w → w ≤ x
    pub ahead : (x : ℕ) → k ≤ x → x < length actors → Group es u x → w ≤ x

  better : (k w : ℕ) → StandsBelow k w → k < length actors → Group es u k → est k < est w → StandsBelow (suc k) k
  better k w s hk g l = record {
    below = hk;
    inside = g;
    least = λ x b h i. elim (cases_eq x k) [ inl e ↦ subst (λ y. est k ≤ est y) (sym e) (omega arith) | inr ne ↦ omega (arith, s.least x (omega arith) h i) ];
    lowest = λ x b h i q. elim (cases_eq x k) [ inl e ↦ omega arith | inr ne ↦ absurd (omega (arith, s.least x (omega arith) h i)) ];
    ahead = λ x b h i. omega arith;
  }

  no_better : (k w : ℕ) → StandsBelow k w → (Group es u k → est w ≤ est k) → StandsBelow (suc k) w
  no_better k w s worse = record {
    below = s.below;
    inside = s.inside;
    least = λ x b h i. elim (cases_eq x k) [
      | inl e ↦ subst (λ y. Group es u y → est w ≤ est y) (sym e) worse i
      | inr ne ↦ s.least x (omega arith) h i
    ];
    lowest = λ x b h i q. elim (cases_eq x k) [ inl e ↦ s.ahead x (omega arith) h i | inr ne ↦ s.lowest x (omega arith) h i q ];
    ahead = λ x b h i. s.ahead x (omega arith) h i;
  }

  module _ (self : Reaches es u u) (low : Lowest (length actors) (Group es) u) where
    seen : (k : ℕ) → k ≤ length actors → StandsBelow k (stand_below actors (length actors) (least_delays (length actors) es) u k)
    seen zero h = record {
      below = hu;
      inside = (self, self);
      least = λ x b. absurd (omega arith);
      lowest = λ x b. absurd (omega arith);
      ahead = λ x b l i. low x l i;
    }
    seen (suc k) h =
        let best = stand_below actors (length actors) (least_delays (length actors) es) u k in
        let s = seen k (omega arith) in
        let same = group_decides (length actors) es small u k hu (omega arith) in
        cond_both (stands_better actors (length actors) (least_delays (length actors) es) u k best) k best (StandsBelow (suc k))
        (λ t. let both = and_parts _ _ t in better k best s (omega arith) (same.0 both.0) (ltb-true _ _ both.1))
        (λ f. no_better k best s (λ g. elim (and_cases _ _ f) [ inl apart ↦ absurd (both_ways _ apart (same.1 g)) | inr worse ↦ ltb-false _ _ worse ]))

    pub stand_in_stands : Stands actors es u (stand_in actors (length actors) (least_delays (length actors) es) u)
    unfolding stand_in
    stand_in_stands =
        let s = seen (length actors) (omega arith) in
        record { below = s.below; inside = s.inside; least = λ x h i. s.least x h h i; lowest = λ x h i q. s.lowest x h h i q }
