-- A run accepts every list of starts and finishes that is right, has room in the guarded links and starts no actor too often.
use Rattle.std.proofs.Common.{◌≡◌, ℕ, suc, ◌+◌, ◌<◌, ◌≤◌, true, false, List, [], ◌∷◌, ◌++◌, map, length, take, sym, refl, ap, subst, inl, inr, append_assoc, append-nil, arith}
use Rattle.std.proofs.lemmas.Bool.{cases_Bool, cases_lt, not_from_true, lt-ltb, lt-leb, eq-eqb}
use Rattle.records.specs.Tables.{link_edge, processor_of}
use Rattle.waits.specs.Events.{Event, start, finish, starts, finishes}
use Rattle.waits.proofs.Counts.{once_tells, starts_start, finishes_start, starts_finish, finishes_finish}
use Rattle.waits.proofs.Prefixes.{LawfulNow, ObeysNow}
use Rattle.guards.specs.Levels.{waiting}
use Rattle.running.specs.declared.Act.TheVariants.{Start as Starts, Finish as Finishes}
use Rattle.running.specs.Entries.{runs}
use Rattle.running.specs.Rows.{guarded}
use Rattle.running.specs.Runs.{Site, Standing, entry_at, link_at, acted}
use Rattle.running.specs.Rehearsals.{carried}
use Rattle.running.specs.Claims.{events, level_at, call}
use Rattle.running.proofs.WhoseTurn.{turn_of_ready}
use Rattle.running.proofs.Allowing.{Allowed, accepted}
use Rattle.running.proofs.Telling.{Fits, turn_with, Tells}
use Rattle.running.proofs.Acting.{acts}

-- the counts allow what comes next
pub record Fair (s : Site) (zs : List Event) : Type 0 where
  pub lawful : (a : ℕ) → LawfulNow a zs
  pub after : (u v : ℕ) → u < v → v < length s.actors → processor_of s.actors u ≡ processor_of s.actors v → starts v zs ≤ finishes u zs
  pub round : (u v : ℕ) → u < length s.actors → v < length s.actors → processor_of s.actors u ≡ processor_of s.actors v → starts v zs ≤ finishes u zs + 1
  pub links : (i : ℕ) → i < length s.links → guarded (link_at s i) ≡ true → ObeysNow (link_edge (link_at s i)) zs
  pub room : (i : ℕ) → i < length s.links → guarded (link_at s i) ≡ true
      → (link_at s i).delay + starts (link_at s i).sender zs ≤ finishes (link_at s i).receiver zs + (link_at s i).size
  pub few : (x : ℕ) → starts x zs ≤ 1000000000
  pub outside : (x : ℕ) → length s.actors ≤ x → (starts x zs ≡ 0) × (finishes x zs ≡ 0)

module _ (s : Site) (ys : List Event) (now : Standing) (tells : Tells s ys now) (a : ℕ) where
  may_start : Fair s (ys ++ (start a ∷ [])) → Allowed s now Starts a
  may_start fair =
      let same : (x : ℕ) → finishes x (ys ++ (start a ∷ [])) ≡ finishes x ys = λ x. finishes_start x a ys in
      let once : starts a (ys ++ (start a ∷ [])) ≡ starts a ys + 1 = simp starts_start (grind (arith, once_tells a a)) in
      let h : a < length s.actors = elim (cases_lt a (length s.actors)) [ inl l ↦ l | inr l ↦ absurd (omega (arith, fair.outside a l)) ] in
      let e = tells.entry a h in
      let t = turn_with s now a in
      let rests : runs (entry_at now a).state ≡ false = elim (cases_Bool (runs (entry_at now a).state)) [
        | inl r ↦ absurd (omega (arith, rw r at e.state, fair.lawful a, same a))
        | inr r ↦ r
      ] in
      let quiet : starts a ys ≡ finishes a ys = omega (arith, rw rests at e.state) in
      let turn = tells.turn a h in
      let own = turn_of_ready s.actors ys t turn a h (tells.same a h) quiet
      (λ l. omega (arith, fair.after t a l h (sym (tells.same a h)), same t))
      (omega (arith, fair.round t a turn.below h (sym (tells.same a h)), same t)) in
      record {
        below = h;
        entry = (omega (arith, e.begun, fair.few a), eq-eqb t a (sym own), rests);
        guards = λ i k r g q.
            let taken : starts (link_at s i).receiver (ys ++ (start a ∷ [])) ≡ starts (link_at s i).receiver ys + 1 = simp starts_start (grind (arith, once_tells (link_at s i).receiver a)) in
            not_from_true (waiting (level_at now.row i)) (lt-ltb 0 (level_at now.row i).count (omega (arith, (tells.guard i k g).count, fair.links i k g, same (link_at s i).sender)));
      }

  may_finish : Fair s ys → Fair s (ys ++ (finish a ∷ [])) → Allowed s now Finishes a
  may_finish before fair =
      let once : finishes a (ys ++ (finish a ∷ [])) ≡ finishes a ys + 1 = simp finishes_finish (grind (arith, once_tells a a)) in
      let h : a < length s.actors = elim (cases_lt a (length s.actors)) [ inl l ↦ l | inr l ↦ absurd (omega (arith, fair.outside a l)) ] in
      let e = tells.entry a h in
      let running : runs (entry_at now a).state ≡ true = elim (cases_Bool (runs (entry_at now a).state)) [
        | inl r ↦ r
        | inr r ↦ absurd (omega (arith, rw r at e.state, fair.lawful a, starts_finish a a ys))
      ] in
      let begun : starts a ys ≡ finishes a ys + 1 = rw running at e.state in
      record {
        below = h;
        entry = running;
        guards = λ i k r g q.
            let l = link_at s i in
            let its : starts l.sender ys ≡ finishes l.sender ys + 1 = subst (λ x. starts x ys ≡ finishes x ys + 1) (sym q) begun in
            let guard = tells.guard i k g in
            lt-leb (level_at now.row i).size (level_at now.row i).count (omega (arith, guard.size, guard.count, before.room i k g, before.lawful l.receiver));
      }

module _ (s : Site) (fits : Fits s) where
  pub all_accepted : (xs ys : List Event) (now : Standing) → Tells s ys now → ((k : ℕ) → Fair s (ys ++ take k xs)) → events (carried s now (map call xs)) ≡ xs
  all_accepted [] ys now tells fair = refl
  all_accepted (start a ∷ xs) ys now tells fair =
      let lets = may_start s ys now tells a (fair 1) in
      rw (accepted s now Starts a tells.sound lets)
      (ap (λ zs. start a ∷ zs) (all_accepted xs (ys ++ (start a ∷ [])) (acted s now Starts a) (acts s fits ys now tells a Starts lets) (λ k. rw append_assoc (fair (suc k)))))
  all_accepted (finish a ∷ xs) ys now tells fair =
      let lets = may_finish s ys now tells a (rw append-nil at (fair 0)) (fair 1) in
      rw (accepted s now Finishes a tells.sound lets)
      (ap (λ zs. finish a ∷ zs) (all_accepted xs (ys ++ (finish a ∷ [])) (acted s now Finishes a) (acts s fits ys now tells a Finishes lets) (λ k. rw append_assoc (fair (suc k)))))
