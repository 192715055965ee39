-- When a start or finish is accepted: what its check asks of the actor's entry, its turn and its guards.
use Rattle.std.proofs.Common.{◌≡◌, ℕ, ◌<◌, Bool, true, false, not, ◌||◌, eqb, leb, length, Some, None, Ok, Option, refl, ⊎_elim}
use Rattle.std.proofs.lemmas.Bool.{cases_Bool, or_parts, not-false, leb-false, lt-leb, eqb-true, eq-eqb}
use Rattle.records.specs.declared.fault.Layer.TheVariants.{Run}
use Rattle.records.specs.declared.tables.Link.{Link}
use Rattle.records.specs.Faults.{fault}
use Rattle.records.specs.declared.refusal.Refusal.TheVariants as refusal
use Rattle.records.specs.declared.refusal.Refusal.{Refusal}
use Rattle.planning.specs.Checks.{refuse_if}
use Rattle.planning.proofs.Passing.{err_not_ok, first_ok, next_ok, passed}
use Rattle.guards.specs.Levels.{Level}
use Rattle.running.specs.declared.Act.{Act}
use Rattle.running.specs.declared.Act.TheVariants.{Start, Finish}
use Rattle.running.specs.declared.Entry.{Entry}
use Rattle.running.specs.Entries.{runs, refuse_at, entry_check}
use Rattle.running.specs.Rows.{first_link, guarded, end_of, stops, blocks}
use Rattle.running.specs.Runs.{Site, Standing, fault_check, entry_at, has_turn, link_at, act_check}
use Rattle.running.specs.Claims.{level_at}
use Rattle.running.proofs.Alongside.{none_fails, fails_none}

-- the entry lets the act pass
abbrev pub EntryLets : Act → Bool → Entry → Type 0
EntryLets Start turn e = (e.starts < 1000000000) × (turn ≡ true) × (runs e.state ≡ false)
EntryLets Finish turn e = runs e.state ≡ true

-- the guard of link l lets the act pass
abbrev pub GuardLets : Act → ℕ → Link → Level → Type 0
GuardLets act a l x = guarded l ≡ true → end_of act l ≡ a → stops act x ≡ false

pub record Allowed (s : Site) (now : Standing) (act : Act) (a : ℕ) : Type 0 where
  pub below : a < length s.actors
  pub entry : EntryLets act (has_turn s now a) (entry_at now a)
  pub guards : (i : ℕ) → i < length s.links → i < length now.row → GuardLets act a (link_at s i) (level_at now.row i)

not_blocked : (act : Act) (a : ℕ) (l : Link) (x : Level) → blocks act a l x ≡ false → GuardLets act a l x
not_blocked act a l x e g q = simp (g, eq-eqb (end_of act l) a q) at e

lets_not_blocked : (act : Act) (a : ℕ) (l : Link) (x : Level) → GuardLets act a l x → blocks act a l x ≡ false
lets_not_blocked act a l x lets =
    ⊎_elim
    (λ (g : guarded l ≡ true).
    ⊎_elim
    (λ (q : eqb (end_of act l) a ≡ true). simp (g, q, lets g (eqb-true _ _ q)))
    (λ (q : eqb (end_of act l) a ≡ false). simp (g, q))
    (cases_Bool (eqb (end_of act l) a)))
    (λ (g : guarded l ≡ false). simp g)
    (cases_Bool (guarded l))

no_link_refuses : (why : Refusal) (blocked : Option ℕ) → refuse_at why blocked ≡ Ok tt → blocked ≡ None
no_link_refuses why None e = refl
no_link_refuses why (Some i) e = absurd (err_not_ok (fault why Run i) e)

entry_passed : (act : Act) (a : ℕ) (turn : Bool) (blocked : Option ℕ) (e : Entry) → entry_check act a turn blocked e ≡ Ok tt → EntryLets act turn e × (blocked ≡ None)
entry_passed Start a turn blocked e ok =
    let limit = refuse_if (leb 1000000000 e.starts) (fault refusal.TooManyStarts Run a) in
    let busy = refuse_if (not turn || runs e.state) (fault refusal.NotItsTurn Run a) in
    let rest = next_ok limit _ ok in
    let idle = or_parts (not turn) (runs e.state) (passed _ (fault refusal.NotItsTurn Run a) (first_ok busy _ rest)) in
    ((leb-false 1000000000 e.starts (passed _ (fault refusal.TooManyStarts Run a) (first_ok limit _ ok)), not-false turn idle.0, idle.1), no_link_refuses refusal.EmptyLink blocked (next_ok busy _ rest))
entry_passed Finish a turn blocked e ok =
    let still = refuse_if (not (runs e.state)) (fault refusal.Resting Run a) in
    (not-false (runs e.state) (passed _ (fault refusal.Resting Run a) (first_ok still _ ok)), no_link_refuses refusal.Full blocked (next_ok still _ ok))

entry_passes : (act : Act) (a : ℕ) (turn : Bool) (e : Entry) → EntryLets act turn e → entry_check act a turn None e ≡ Ok tt
entry_passes Start a turn e (few, own, rests) = simp (lt-leb 1000000000 e.starts few, own, rests)
entry_passes Finish a turn e runs = simp runs

module _ (s : Site) (now : Standing) (act : Act) (a : ℕ) where
  -- an accepted act was allowed
  pub allowed : act_check s now act a ≡ Ok tt → Allowed s now act a
  unfolding act_check
  allowed ok =
      let known = refuse_if (leb (length s.actors) a) (fault refusal.Unknown Run a) in
      let sound = next_ok (fault_check now.fault) _ ok in
      let (lets, none) = entry_passed act a (has_turn s now a) (first_link (blocks act a) 0 s.links now.row) (entry_at now a) (next_ok known _ sound) in
      record {
        below = leb-false (length s.actors) a (passed _ (fault refusal.Unknown Run a) (first_ok known _ sound));
        entry = lets;
        guards = λ i h r. not_blocked act a (link_at s i) (level_at now.row i) (none_fails (blocks act a) 0 s.links now.row none i h r);
      }

  -- an allowed act is accepted
  pub accepted : now.fault ≡ None → Allowed s now act a → act_check s now act a ≡ Ok tt
  unfolding act_check
  accepted sound lets =
      let free = fails_none (blocks act a) 0 s.links now.row (λ i h r. lets_not_blocked act a (link_at s i) (level_at now.row i) (lets.guards i h r)) in
      rw (sound, lt-leb (length s.actors) a lets.below, free) (entry_passes act a (has_turn s now a) (entry_at now a) lets.entry)
