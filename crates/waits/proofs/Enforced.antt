-- Live edges enforce a wait only by a path.
use Rattle.std.proofs.Common.{◌≡◌, ℕ, suc, ◌+◌, ◌≤◌, cond, eqb, List, sym, refl, subst, inl, inr, arith}
use Rattle.std.proofs.lemmas.Bool.{cases_eq, eq-eqb, ne_eqb}
use Rattle.records.specs.declared.tables.Edge.{Edge}
use Rattle.records.specs.Tables.{edge}
use Rattle.waits.specs.Events.{In, Path, last, Live, Enforces}
use Rattle.waits.proofs.Prefixes.{ObeysNow, at_end, obeys_counts}
use Rattle.waits.proofs.Paths.{path_joined}
use Rattle.waits.proofs.Ends.{above_ends, within_above}
use Rattle.waits.proofs.Least.{least_delay, capped, capped_le, capped_step, capped_found}
use Rattle.waits.proofs.Targets.{target_reached}

-- how often each actor can start, up to c times, while u finishes no firing, and how often it then finishes
module _ (es : List Edge) (u c : ℕ) where
  most_starts : ℕ → ℕ
  most_starts x = capped c (least_delay es u x)

  most_finishes : ℕ → ℕ
  most_finishes x = cond (eqb x u) 0 (most_starts x)

  at_u : (x : ℕ) → x ≡ u → most_finishes x ≡ 0
  unfolding most_finishes
  at_u x e = simp (eq-eqb x u e)

  elsewhere : (x : ℕ) → (x ≡ u → ⊥) → most_finishes x ≡ most_starts x
  unfolding most_finishes
  elsewhere x ne = simp (ne_eqb x u ne)

  near : Path es u u 1 → (x : ℕ) → (most_finishes x ≤ most_starts x) × (most_starts x ≤ most_finishes x + 1)
  unfolding most_starts
  near p x = elim (cases_eq x u) [
    | inl e ↦ omega (arith, at_u x e, capped_le c (least_delay es u x) 1 (subst (λ y. Path es u y 1) (sym e) p))
    | inr ne ↦ omega (arith, elsewhere x ne)
  ]

  room : (e : Edge) → In e es → most_starts e.receiver ≤ most_finishes e.sender + e.delay
  unfolding most_starts
  room e h = let x = e.sender in let y = e.receiver in elim (cases_eq x u) [
    | inl q ↦ omega (arith, capped_le c (least_delay es u y) e.delay (last (subst (λ z. In (edge z y e.delay) es) q h)))
    | inr ne ↦ omega (arith, elsewhere x ne, capped_step c (least_delay es u x) (least_delay es u y) e.delay (λ a p. path_joined p (last h)))
  ]

-- if live edges enforce a wait of v for u, and u has a closed path of delay 1, a path from u to v has at most the wait's delay
pub enforced_has_path : (es : List Edge) → Live es → (u v d : ℕ) → Path es u u 1 → Enforces es (edge u v d) → (t : ℕ) × (t ≤ d) × Path es u v t
unfolding most_starts
enforced_has_path es live u v d p all =
    let n = above_ends es + u + v + 1 in
    let (xs, lawful, obeys, counts, none) = target_reached es n live (within_above es n (omega arith)) (most_starts es u (suc d)) (most_finishes es u (suc d)) (near es u (suc d) p) (room es u (suc d)) in
    let o = at_end (ObeysNow (edge u v d)) xs (obeys_counts xs (edge u v d) (all xs lawful obeys)) in
    let (t, l, q) = capped_found (suc d) (least_delay es u v) (omega (arith, counts u (omega arith), counts v (omega arith), at_u es u (suc d) u refl)) in
    (t, omega arith, q)
