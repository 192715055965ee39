-- The cells question, step by step.
use Rattle.std.proofs.Common.{◌≡◌, ℕ, Bool, true, false, ◌||◌, ltb, leb, length, None, Ok, Err, Result, ap, ◌∙◌}
use Rattle.records.specs.declared.fault.Fault.{Fault}
use Rattle.records.specs.declared.fault.Layer.TheVariants.{Run}
use Rattle.records.specs.Faults.{fault, then}
use Rattle.records.specs.declared.refusal.Refusal.TheVariants as refusal
use Rattle.planning.specs.Checks.{refuse_if}
use Rattle.running.specs.declared.Cells.{Cells}
use Rattle.running.specs.Runs.{Site, Standing, fault_check, cells_answer, buffer, entry_at, link_at}

module _ (s : Site) (now : Standing) (i : ℕ) where
  told : Result Cells Fault
  told = Ok (buffer (link_at s i) (entry_at now (link_at s i).sender) (entry_at now (link_at s i).receiver))

  no_cross : Bool
  no_cross = leb (length s.links) i || ltb 1 (link_at s i).mark

  pub unknown_tells : now.fault ≡ None → (leb (length s.links) i || ltb 1 (link_at s i).mark) ≡ true → cells_answer s now i ≡ Err (fault refusal.Unknown Run i)
  unfolding cells_answer told no_cross
  unknown_tells e t =
      ap (λ o. then (fault_check o) (λ _. then (refuse_if no_cross (fault refusal.Unknown Run i)) (λ _. told))) e
      ∙ ap (λ b. then (refuse_if b (fault refusal.Unknown Run i)) (λ _. told)) t

  pub cross_tells : now.fault ≡ None → (leb (length s.links) i || ltb 1 (link_at s i).mark) ≡ false
      → cells_answer s now i ≡ Ok (buffer (link_at s i) (entry_at now (link_at s i).sender) (entry_at now (link_at s i).receiver))
  unfolding cells_answer told no_cross
  cross_tells e t =
      ap (λ o. then (fault_check o) (λ _. then (refuse_if no_cross (fault refusal.Unknown Run i)) (λ _. told))) e
      ∙ ap (λ b. then (refuse_if b (fault refusal.Unknown Run i)) (λ _. told)) t
