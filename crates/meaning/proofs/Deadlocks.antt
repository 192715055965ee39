-- A drawing is refused as deadlocked exactly when it cannot run.
use Rattle.std.proofs.Common.{◌≡◌, ℕ, zero, suc, ◌+◌, ◌<◌, Bool, true, false, List, [], ◌∷◌, length, get_or, Ok, Err, Result, sym, refl, ap, ◌∙◌, subst, ⊎_elim, zero-add, arith}
use Rattle.std.specs.List.{range_with_len}
use Rattle.std.proofs.lemmas.List.FromFn.{length-range_with_len, get_or-range_with_len}
use Rattle.std.proofs.lemmas.Bool.{cases_Bool, cond-true, cond-false, both_ways}
use Rattle.records.specs.declared.fault.Fault.{Fault}
use Rattle.records.specs.declared.fault.Layer.{Layer}
use Rattle.records.specs.declared.fault.Layer.TheVariants.{Plan}
use Rattle.records.specs.Faults.{fault}
use Rattle.records.specs.declared.refusal.Refusal.TheVariants as refusal
use Rattle.records.specs.declared.refusal.Refusal.{Refusal}
use Rattle.waits.specs.Events.{Path, Live, last, step}
use Rattle.waits.proofs.Targets.{target_reached}
use Rattle.waits.proofs.Waits.{cycle_blocks}
use Rattle.planning.specs.Checks.{refuse_first, on_cycle, check_cycles}
use Rattle.planning.specs.Planning.{Given, Totals, base_edges, free_paths, tables_check, cycles_check, refused, deadlocked, accepted, unless, planned}
use Rattle.planning.proofs.Passing.{err_not_ok, none_bad}
use Rattle.meaning.specs.Promises.{Runs, given_edges, LowestOnCycle, DeadlockExactly}
use Rattle.meaning.proofs.Drawn.{base_small}
use Rattle.meaning.proofs.Following.{follows, obeys_edges}
use Rattle.meaning.proofs.Free.{free_if_path, path_if_free}

-- the first refused element: it is bad, and none before it is
pub first_bad : {X : Type 0} (bad : X → Bool) (why : Refusal) (layer : Layer) (k : ℕ) (xs : List X) (d : X) (f : Fault) → refuse_first bad why layer k xs ≡ Err f
    → (i : ℕ) × (i < length xs) × (f ≡ fault why layer (k + i)) × (bad (get_or xs i d) ≡ true) × ((j : ℕ) → j < i → bad (get_or xs j d) ≡ false)
first_bad bad why layer k [] d f e = absurd (err_not_ok f (sym e))
first_bad bad why layer k (x ∷ xs) d f e =
    ⊎_elim
    (λ (t : bad x ≡ true).
    let same : fault why layer k ≡ f = let p : ◌≡◌ {A = Result Unit Fault} (Err (fault why layer k)) (Err f) = sym (cond-true _ _ _ t) ∙ e in cc in
    (0, omega arith, sym same ∙ ap (fault why layer) (let z : k ≡ k + 0 = omega arith in z), t, λ j h. absurd (omega arith)))
    (λ (t : bad x ≡ false).
    let r = first_bad bad why layer (k + 1) xs d f (sym (cond-false _ _ _ t) ∙ e) in
    (suc r.0, omega (arith, r.1), r.2 ∙ ap (fault why layer) (let z : k + 1 + r.0 ≡ k + suc r.0 = omega arith in z), r.3, earlier bad x xs d r.0 t r.4))
    (cases_Bool (bad x))
  where
    earlier : {X : Type 0} (bad : X → Bool) (x : X) (xs : List X) (d : X) (i : ℕ) → bad x ≡ false → ((j : ℕ) → j < i → bad (get_or xs j d) ≡ false)
        → (j : ℕ) → j < suc i → bad (get_or (x ∷ xs) j d) ≡ false
    earlier bad x xs d i t h zero l = t
    earlier bad x xs d i t h (suc j) l = h j (omega arith)

module _ (d : Given) (tables : tables_check d ≡ Ok tt) where
  at_counting : (u : ℕ) → u < length d.actors → get_or (range_with_len 0 (length d.actors)) u 0 ≡ u
  at_counting u h = get_or-range_with_len 0 (length d.actors) u 0 h ∙ zero-add u

  -- every actor of a path is one of the drawing
  starts_below : {u v t : ℕ} → Path (base_edges d) u v t → u < length d.actors
  starts_below (last i) = ((base_small d tables).within _ i).0
  starts_below (step c i p) = ((base_small d tables).within _ i).0

  free_at : (u : ℕ) → u < length d.actors → Path (base_edges d) u u 0 → on_cycle (length d.actors) (free_paths d) u ≡ true
  free_at u h p = free_if_path (length d.actors) (base_edges d) (base_small d tables).within u u h h p

  pub live : cycles_check d ≡ Ok tt → Live (base_edges d)
  unfolding check_cycles
  live e u p =
      let h = starts_below p in
      let long = length-range_with_len 0 (length d.actors) in
      both_ways (on_cycle (length d.actors) (free_paths d) u)
      (ap (on_cycle (length d.actors) (free_paths d)) (sym (at_counting u h)) ∙ none_bad (on_cycle (length d.actors) (free_paths d)) refusal.Deadlock Plan 0 (range_with_len 0 (length d.actors)) 0 e u (omega arith))
      (free_at u h p)

  runs : Live (base_edges d) → Runs d
  runs alive =
      let r = target_reached (base_edges d) (length d.actors) alive (base_small d tables).within (λ _. 1) (λ _. 1) (λ x. (omega arith, omega arith)) (λ e i. omega arith) in
      (r.0, follows d.actors (given_edges d) r.0 r.1 r.2, λ x h. omega (arith, (r.3 x h).1))

  stuck : (u : ℕ) → u < length d.actors → Path (base_edges d) u u 0 → Runs d → ⊥
  stuck u h p r =
      let none = cycle_blocks p r.0 r.1.lawful (obeys_edges d.actors (given_edges d) r.0 r.1) in
      omega (arith, none.1, r.2 u h)

  lowest : (f : Fault) → cycles_check d ≡ Err f → (f ≡ fault refusal.Deadlock Plan f.place) × (Runs d → ⊥) × LowestOnCycle d f.place
  unfolding check_cycles
  lowest f e =
      let r = first_bad (on_cycle (length d.actors) (free_paths d)) refusal.Deadlock Plan 0 (range_with_len 0 (length d.actors)) 0 f e in
      let i = r.0 in
      let below : i < length d.actors = omega (arith, r.1, length-range_with_len 0 (length d.actors)) in
      let is : f ≡ fault refusal.Deadlock Plan i = r.2 ∙ ap (fault refusal.Deadlock Plan) (zero-add i) in
      let place : f.place ≡ i = ap (λ (x : Fault). x.place) is in
      let cycle = path_if_free (length d.actors) (base_edges d) (base_small d tables).within i i below below (ap (on_cycle (length d.actors) (free_paths d)) (sym (at_counting i below)) ∙ r.3) in (
        is ∙ ap (fault refusal.Deadlock Plan) (sym place),
        stuck i below cycle,
        subst (LowestOnCycle d) (sym place) (record {
          below = below;
          on_cycle = cycle;
          lowest = λ w h p.
              let hw : w < length d.actors = omega arith in
              both_ways (on_cycle (length d.actors) (free_paths d) w) (ap (on_cycle (length d.actors) (free_paths d)) (sym (at_counting w hw)) ∙ r.4 w h) (free_at w hw p);
        }),
      )

-- how planning ends where the tables pass
after_tables : (d : Given) → tables_check d ≡ Ok tt → planned d ≡ unless (cycles_check d) (deadlocked d) (accepted d)
unfolding planned
after_tables d e = ap (λ r. unless r (refused d) (unless (cycles_check d) (deadlocked d) (accepted d))) e

answer_cases : (d : Given) (cycles : Result Unit Fault) → (f : Fault) → (unless cycles (deadlocked d) (accepted d)).answer ≡ Err f → cycles ≡ Err f
answer_cases d (Ok x) f e = let z : ◌≡◌ {A = ℕ} 0 1 = cc in absurd (omega arith)
answer_cases d (Err g) f e = let same : g ≡ f = cc in ap Err same

answer_passes : (d : Given) (cycles : Result Unit Fault) → (t : Totals) → (unless cycles (deadlocked d) (accepted d)).answer ≡ Ok t → cycles ≡ Ok tt
answer_passes d (Ok x) t e = refl
answer_passes d (Err g) t e = let z : ◌≡◌ {A = ℕ} 0 1 = cc in absurd (omega arith)

pub passes_cycles : (d : Given) → tables_check d ≡ Ok tt → (t : Totals) → (planned d).answer ≡ Ok t → cycles_check d ≡ Ok tt
passes_cycles d tables t e = answer_passes d (cycles_check d) t (ap (λ o. o.answer) (sym (after_tables d tables)) ∙ e)

pub deadlock_exactly : (d : Given) → DeadlockExactly d
deadlock_exactly d tables = record {
  accepted = λ t e. runs d tables (live d tables (passes_cycles d tables t e));
  refused = λ f e. lowest d tables f (answer_cases d (cycles_check d) f (ap (λ o. o.answer) (sym (after_tables d tables)) ∙ e));
}
