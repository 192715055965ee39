-- Paths along a processor's order: to a later actor without delay, and to every actor with delay 1.
use Rattle.std.proofs.Common.{◌≡◌, ℕ, zero, suc, ◌<◌, ◌≤◌, true, false, eqb, ◌⊎◌, List, length, Some, None, sym, refl, ap, ◌∙◌, subst, inl, inr, ⊎_elim, arith}
use Rattle.std.specs.List.{range_with_len}
use Rattle.std.proofs.lemmas.Bool.{cases_lt, cases_Bool, cond-true, cond-false, eqb-true, eqb-false}
use Rattle.records.specs.declared.tables.Actor.{Actor}
use Rattle.records.specs.declared.tables.Edge.{Edge}
use Rattle.records.specs.Tables.{edge, processor_of}
use Rattle.waits.specs.Events.{In, Path, last}
use Rattle.waits.proofs.Paths.{path_joined}
use Rattle.planning.specs.Edges.{last_on, edge_into, order_edge, orders}
use Rattle.meaning.proofs.Rising.{has_map, has_counting}

-- the last actor below k on a processor: it is on it, and none between it and k is
pub record Last (actors : List Actor) (p k u : ℕ) : Type 0 where
  pub below : u < k
  pub on : processor_of actors u ≡ p
  pub highest : (w : ℕ) → w < k → processor_of actors w ≡ p → w ≤ u

pub last_found : (actors : List Actor) (p k : ℕ)
    → ((u : ℕ) × (last_on actors p k ≡ Some u) × Last actors p k u) ⊎ ((last_on actors p k ≡ None) × ((w : ℕ) → w < k → processor_of actors w ≡ p → ⊥))
last_found actors p zero = inr (refl, λ w h e. omega arith)
last_found actors p (suc k) =
    ⊎_elim
    (λ (t : eqb (processor_of actors k) p ≡ true).
    inl (k, cond-true _ _ _ t, record { below = omega arith; on = eqb-true _ _ t; highest = λ w h e. omega arith }))
    (λ (t : eqb (processor_of actors k) p ≡ false).
    let not_k = eqb-false (processor_of actors k) p t in
    let up : (w : ℕ) → w < suc k → processor_of actors w ≡ p → w < k = λ w h e.
    ⊎_elim (λ (l : w < k). l) (λ (l : k ≤ w). let same : w ≡ k = omega arith in absurd (not_k (sym (ap (processor_of actors) same) ∙ e))) (cases_lt w k) in
    ⊎_elim
    (λ (f : (u : ℕ) × (last_on actors p k ≡ Some u) × Last actors p k u).
    inl (f.0, cond-false _ _ _ t ∙ f.1, record { below = omega (arith, f.2.below); on = f.2.on; highest = λ w h e. f.2.highest w (up w h e) e }))
    (λ (f : (last_on actors p k ≡ None) × ((w : ℕ) → w < k → processor_of actors w ≡ p → ⊥)).
    inr (cond-false _ _ _ t ∙ f.0, λ w h e. f.1 w (up w h e) e))
    (last_found actors p k))
    (cases_Bool (eqb (processor_of actors k) p))

module _ (actors : List Actor) where
  abbrev pub on : ℕ → ℕ
  on u = processor_of actors u

  -- the order's edge into v
  pub entered : (v : ℕ) → v < length actors → (e : Edge) → order_edge actors v ≡ e → In e (orders actors)
  entered v h e p = subst (λ x. In x (orders actors)) p (has_map (order_edge actors) (range_with_len 0 (length actors)) v (has_counting 0 (length actors) v (omega arith) (omega arith)))

  pub from_before : (v u : ℕ) → last_on actors (on v) v ≡ Some u → order_edge actors v ≡ edge u v 0
  unfolding order_edge
  from_before v u e = ap (λ b. edge_into v b (last_on actors (on v) (length actors))) e

  pub from_last : (v u : ℕ) → last_on actors (on v) v ≡ None → last_on actors (on v) (length actors) ≡ Some u → order_edge actors v ≡ edge u v 1
  unfolding order_edge
  from_last v u e l = ap (λ b. edge_into v b (last_on actors (on v) (length actors))) e ∙ ap (edge_into v None) l

  -- to a later actor of the processor
  later : (k u v : ℕ) → v ≤ k → u < v → v < length actors → on u ≡ on v → Path (orders actors) u v 0
  later zero u v le lt h e = absurd (omega arith)
  later (suc k) u v le lt h e =
      ⊎_elim
      (λ (f : (b : ℕ) × (last_on actors (on v) v ≡ Some b) × Last actors (on v) v b).
      let b = f.0 in
      let i = entered v h (edge b v 0) (from_before v b f.1) in
      let up = f.2.highest u lt e in
      ⊎_elim
      (λ (l : u < b). path_joined {c = 0} {d = 0} (later k u b (omega (arith, f.2.below)) l (omega (arith, f.2.below)) (e ∙ sym f.2.on)) (last i))
      (λ (l : b ≤ u). let same : b ≡ u = omega arith in subst (λ x. Path (orders actors) x v 0) same (last i))
      (cases_lt u b))
      (λ (f : (last_on actors (on v) v ≡ None) × ((w : ℕ) → w < v → on w ≡ on v → ⊥)). absurd (f.1 u lt e))
      (last_found actors (on v) v)

  -- to a later actor of the processor there is a path without delay
  pub later_path : (u v : ℕ) → u < v → v < length actors → on u ≡ on v → Path (orders actors) u v 0
  later_path u v lt h e = later v u v (omega arith) lt h e

  -- the first actor of the processor of v
  record First (v f : ℕ) : Type 0 where
    pub before : f ≤ v
    pub same : on f ≡ on v
    pub lowest : last_on actors (on f) f ≡ None

  first_at : (k v : ℕ) → v ≤ k → (f : ℕ) × First v f
  first_at zero v le =
      ⊎_elim
      (λ (f : (b : ℕ) × (last_on actors (on v) v ≡ Some b) × Last actors (on v) v b). absurd (omega (arith, f.2.below)))
      (λ (f : (last_on actors (on v) v ≡ None) × ((w : ℕ) → w < v → on w ≡ on v → ⊥)). (v, record { before = omega arith; same = refl; lowest = f.0 }))
      (last_found actors (on v) v)
  first_at (suc k) v le =
      ⊎_elim
      (λ (f : (b : ℕ) × (last_on actors (on v) v ≡ Some b) × Last actors (on v) v b).
      let r = first_at k f.0 (omega (arith, f.2.below)) in
      (r.0, record { before = omega (arith, r.1.before, f.2.below); same = r.1.same ∙ f.2.on; lowest = r.1.lowest }))
      (λ (f : (last_on actors (on v) v ≡ None) × ((w : ℕ) → w < v → on w ≡ on v → ⊥)). (v, record { before = omega arith; same = refl; lowest = f.0 }))
      (last_found actors (on v) v)

  -- from u to f, the first actor of its processor, by way of the last one
  to_first : (u f : ℕ) → u < length actors → f < length actors → on u ≡ on f → last_on actors (on f) f ≡ None → Path (orders actors) u f 1
  to_first u f hu hf e none =
      ⊎_elim
      (λ (l : (b : ℕ) × (last_on actors (on f) (length actors) ≡ Some b) × Last actors (on f) (length actors) b).
      let b = l.0 in
      let i = entered f hf (edge b f 1) (from_last f b none l.1) in
      let up = l.2.highest u hu e in
      ⊎_elim
      (λ (lt : u < b). path_joined {c = 0} {d = 1} (later_path u b lt l.2.below (e ∙ sym l.2.on)) (last i))
      (λ (ge : b ≤ u). let same : b ≡ u = omega arith in subst (λ x. Path (orders actors) x f 1) same (last i))
      (cases_lt u b))
      (λ (l : (last_on actors (on f) (length actors) ≡ None) × ((w : ℕ) → w < length actors → on w ≡ on f → ⊥)). absurd (l.1 f hf refl))
      (last_found actors (on f) (length actors))

  -- to every actor of the processor, itself too, there is a path of delay 1
  pub round_path : (u v : ℕ) → u < length actors → v < length actors → on u ≡ on v → Path (orders actors) u v 1
  round_path u v hu hv e =
      let r = first_at v v (omega arith) in
      let f = r.0 in
      let hf : f < length actors = omega (arith, r.1.before) in
      let way = to_first u f hu hf (e ∙ sym r.1.same) r.1.lowest in
      ⊎_elim
      (λ (lt : f < v). path_joined {c = 1} {d = 0} way (later_path f v lt hv r.1.same))
      (λ (ge : v ≤ f). let same : f ≡ v = omega (arith, r.1.before) in subst (λ x. Path (orders actors) u x 1) same way)
      (cases_lt f v)
