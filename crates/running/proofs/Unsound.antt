-- An unsound run refuses every call and changes nothing.
use Rattle.std.proofs.Common.{◌≡◌, ℕ, List, [], ◌∷◌, map, Some, Err, refl, ap, ◌∙◌}
use Rattle.records.specs.declared.fault.Fault.{Fault}
use Rattle.running.specs.declared.Act.{Act}
use Rattle.running.specs.declared.Act.TheVariants.{Start as Starts, Finish as Finishes}
use Rattle.running.specs.declared.Answer.{Answer}
use Rattle.running.specs.declared.Answer.TheVariants.{Refused}
use Rattle.running.specs.declared.Call.{Call}
use Rattle.running.specs.declared.Call.TheVariants.{Start, Finish, Cells}
use Rattle.running.specs.declared.Step.{Step}
use Rattle.running.specs.Runs.{Site, Standing, act_check, acted, if_accepted, cells_answer}
use Rattle.running.specs.Rehearsals.{done_or_refused, told_or_refused, answer_to, after_call, carried, carried_to}

abbrev pub stepped : Call → Answer → Step
stepped c r = record { call = c; answer = r }

module _ (s : Site) (now : Standing) (f : Fault) (e : now.fault ≡ Some f) where
  pub no_act : (act : Act) (a : ℕ) → act_check s now act a ≡ Err f
  unfolding act_check
  no_act act a = rw e refl

  pub no_cells : (i : ℕ) → cells_answer s now i ≡ Err f
  unfolding cells_answer
  no_cells i = rw e refl

  refused : (c : Call) → answer_to s now c ≡ Refused f
  refused (Start a) = ap done_or_refused (no_act Starts a)
  refused (Finish a) = ap done_or_refused (no_act Finishes a)
  refused (Cells i) = ap told_or_refused (no_cells i)

  stays : (c : Call) → after_call s now c ≡ now
  stays (Start a) = ap (λ r. if_accepted r (acted s now Starts a) now) (no_act Starts a)
  stays (Finish a) = ap (λ r. if_accepted r (acted s now Finishes a) now) (no_act Finishes a)
  stays (Cells i) = refl

  abbrev refusal : Step → Step
  refusal x = record { call = x.call; answer = Refused f }

  pub all_refused : (steps : List Step) → carried s now steps ≡ map refusal steps
  all_refused [] = refl
  all_refused (x ∷ xs) =
      ap (λ r. stepped x.call r ∷ carried s (after_call s now x.call) xs) (refused x.call)
      ∙ ap (λ n. refusal x ∷ carried s n xs) (stays x.call)
      ∙ ap (λ ys. refusal x ∷ ys) (all_refused xs)

  pub never_moves : (steps : List Step) → carried_to s now steps ≡ now
  never_moves [] = refl
  never_moves (x ∷ xs) = ap (λ n. carried_to s n xs) (stays x.call) ∙ never_moves xs
