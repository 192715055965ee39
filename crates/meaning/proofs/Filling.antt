-- How far a sender can get ahead of a receiver: as far as the least delay back, and no further.
use Rattle.std.proofs.Common.{◌≡◌, ℕ, ◌+◌, ◌<◌, ◌≤◌, min, max, cond, eqb, List, take, sym, refl, ◌∙◌, subst, ⊎_elim, arith}
use Rattle.std.proofs.lemmas.Bool.{cases_lt, cases_eq, cond-true, cond-false, eq-eqb, ne_eqb}
use Rattle.records.specs.declared.tables.Edge.{Edge}
use Rattle.records.specs.Tables.{edge}
use Rattle.waits.specs.Events.{Event, starts, finishes, In, Lawful, ObeysAll, Path, last, Live}
use Rattle.waits.proofs.Paths.{path_joined}
use Rattle.waits.proofs.Prefixes.{obeys_counts}
use Rattle.waits.proofs.Targets.{target_reached}
use Rattle.waits.proofs.Waits.{waits_along_path}
use Rattle.paths.specs.Closure.{entry}
use Rattle.paths.specs.Models.{delay_ops}
use Rattle.planning.specs.Tables.{least_delays}
use Rattle.meaning.proofs.Delays.{least, least_low, least_attained}
use Rattle.meaning.proofs.Reaching.{Small}

module _ (n : ℕ) (es : List Edge) (small : Small n es) where
  abbrev back : ℕ → ℕ → ℕ
  back v x = least n es small.within v x

  back_bounded : (v x : ℕ) → back v x ≤ 4294967295
  back_bounded v x = (entry delay_ops (least_delays n es) n v x).fits

  -- one edge more
  back_step : (v : ℕ) → v < n → (e : Edge) → In e es → back v e.receiver ≤ back v e.sender + e.delay
  back_step v hv e i =
      let ends = small.within e i in
      ⊎_elim
      (λ (l : back v e.sender < 4294967295).
      least_low n es small.within hv ends.1 (path_joined (least_attained n es small.within v e.sender hv ends.0 l) (last i)))
      (λ (l : 4294967295 ≤ back v e.sender). omega (arith, back_bounded v e.receiver))
      (cases_lt (back v e.sender) 4294967295)

  -- in no list that obeys the edges is the sender further ahead
  pub never_further : (u v : ℕ) → u < n → v < n → back v u < 4294967295 → (xs : List Event) → Lawful xs → ObeysAll xs es
      → (k : ℕ) → starts u (take k xs) ≤ finishes v (take k xs) + back v u
  never_further u v hu hv number xs lawful all k =
      obeys_counts xs (edge v u (back v u)) (waits_along_path (least_attained n es small.within v u hv hu number) (back v u) (omega arith) xs lawful all) k

  module _ (live : Live es) (u v : ℕ) (hu : u < n) (hv : v < n) (turn : Path es v v 1) where
    far : ℕ → ℕ
    far x = min (back v x) (max 1 (back v u))

    done : ℕ → ℕ
    done x = cond (eqb x v) 0 (min (back v x) (max 1 (back v u)))

    done_at : done v ≡ 0
    unfolding done
    done_at = cond-true _ _ _ (eq-eqb v v refl)

    done_other : (x : ℕ) → (x ≡ v → ⊥) → done x ≡ far x
    unfolding done far
    done_other x d = cond-false _ _ _ (ne_eqb x v d)

    far_is : (x : ℕ) → far x ≡ min (back v x) (max 1 (back v u))
    unfolding far
    far_is x = refl

    steady : (x : ℕ) → (done x ≤ far x) × (far x ≤ done x + 1)
    steady x =
        ⊎_elim
        (λ (e : x ≡ v).
        let low = least_low n es small.within hv hv turn in
        subst (λ y. (done y ≤ far y) × (far y ≤ done y + 1)) (sym e) (omega (arith, done_at), omega (arith, done_at, far_is v)))
        (λ (d : x ≡ v → ⊥). (omega (arith, done_other x d), omega (arith, done_other x d)))
        (cases_eq x v)

    allowed : (e : Edge) → In e es → far e.receiver ≤ done e.sender + e.delay
    allowed e i =
        ⊎_elim
        (λ (p : e.sender ≡ v).
        let direct : Path es v e.receiver e.delay = subst (λ y. Path es y e.receiver e.delay) p (last i) in
        omega (arith, least_low n es small.within hv (small.within e i).1 direct, far_is e.receiver))
        (λ (d : e.sender ≡ v → ⊥). omega (arith, done_other e.sender d, far_is e.receiver, far_is e.sender, back_step v hv e i))
        (cases_eq e.sender v)

    -- some list that obeys them gets it so far while the receiver has not finished once, and nobody starts more often
    pub gets_so_far : (xs : List Event) × Lawful xs × ObeysAll xs es × (starts u xs ≡ back v u) × (finishes v xs ≡ 0)
        × ((x : ℕ) → starts x xs ≤ max 1 (back v u)) × ((x : ℕ) → n ≤ x → (starts x xs ≡ 0) × (finishes x xs ≡ 0))
    gets_so_far =
        let r = target_reached es n live small.within far done steady allowed in (
          r.0,
          r.1,
          r.2,
          (r.3 u hu).0 ∙ far_is u ∙ (let e : min (back v u) (max 1 (back v u)) ≡ back v u = omega arith in e),
          (r.3 v hv).1 ∙ done_at,
          λ x. ⊎_elim (λ (l : x < n). omega (arith, (r.3 x l).0, far_is x)) (λ (l : n ≤ x). omega (arith, (r.4 x l).0)) (cases_lt x n),
          r.4,
        )
