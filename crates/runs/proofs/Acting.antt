-- Starts and finishes, step by step.
use Rattle.std.proofs.Common.{◌≡◌, ℕ, ◌<◌, ◌≤◌, leb, length, None, Ok, Err, Result, ap, ◌∙◌}
use Rattle.std.proofs.lemmas.Bool.{le-leb, lt-leb}
use Rattle.records.specs.declared.fault.Fault.{Fault}
use Rattle.records.specs.declared.fault.Layer.TheVariants.{Run}
use Rattle.records.specs.Faults.{fault, then}
use Rattle.records.specs.declared.refusal.Refusal.TheVariants as refusal
use Rattle.planning.specs.Checks.{refuse_if}
use Rattle.running.specs.declared.Act.{Act}
use Rattle.running.specs.Entries.{entry_check}
use Rattle.running.specs.Rows.{first_link, blocks}
use Rattle.running.specs.Runs.{Site, Standing, fault_check, act_check, acted, if_accepted, after_act, has_turn, entry_at}

module _ (s : Site) (now : Standing) (act : Act) (a : ℕ) where
  -- what is refused of an actor by its entry, its turn and its guards
  abbrev pub by_entry : Result Unit Fault
  by_entry = entry_check act a (has_turn s now a) (first_link (blocks act a) 0 s.links now.row) (entry_at now a)

  pub unknown_refuses : now.fault ≡ None → length s.actors ≤ a → act_check s now act a ≡ Err (fault refusal.Unknown Run a)
  unfolding act_check
  unknown_refuses e h =
      ap (λ o. then (fault_check o) (λ _. then (refuse_if (leb (length s.actors) a) (fault refusal.Unknown Run a)) (λ _. by_entry))) e
      ∙ ap (λ b. then (refuse_if b (fault refusal.Unknown Run a)) (λ _. by_entry)) (le-leb (length s.actors) a h)

  pub entry_decides : now.fault ≡ None → a < length s.actors → act_check s now act a ≡ by_entry
  unfolding act_check
  entry_decides e h =
      ap (λ o. then (fault_check o) (λ _. then (refuse_if (leb (length s.actors) a) (fault refusal.Unknown Run a)) (λ _. by_entry))) e
      ∙ ap (λ b. then (refuse_if b (fault refusal.Unknown Run a)) (λ _. by_entry)) (lt-leb (length s.actors) a h)

  -- a refusal leaves the run as it stands
  pub refused_stands : (f : Fault) → act_check s now act a ≡ Err f → after_act s now act a ≡ now
  refused_stands f e = ap (λ r. if_accepted r (acted s now act a) now) e

  pub accepted_moves : act_check s now act a ≡ Ok tt → after_act s now act a ≡ acted s now act a
  accepted_moves e = ap (λ r. if_accepted r (acted s now act a) now) e
