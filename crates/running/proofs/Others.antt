-- The guards of links without guard, and those past the links, stand.
use Rattle.std.proofs.Common.{◌≡◌, ℕ, zero, suc, ◌<◌, false, List, [], ◌∷◌, length, get_or, Ok, Err, Result, refl, ◌∙◌, arith}
use Rattle.records.specs.declared.fault.Fault.{Fault}
use Rattle.records.specs.declared.tables.Link.{Link}
use Rattle.records.specs.Tables.{no_link}
use Rattle.guards.specs.Levels.{Level}
use Rattle.running.specs.declared.Act.{Act}
use Rattle.running.specs.declared.Act.TheVariants.{Start as Starts, Finish as Finishes}
use Rattle.running.specs.declared.Call.{Call}
use Rattle.running.specs.declared.Call.TheVariants.{Start, Finish, Cells}
use Rattle.running.specs.declared.Step.{Step}
use Rattle.running.specs.Rows.{each, guarded, set_up, passes}
use Rattle.running.specs.Runs.{Site, Standing, link_at, act_check, acted, if_accepted}
use Rattle.running.specs.Rehearsals.{after_call, carried_to}
use Rattle.running.specs.Claims.{level_at}

each_stands : (change : Link → Level → Level) (ls : List Link) (row : List Level) (i : ℕ) → (i < length ls → (x : Level) → change (get_or ls i no_link) x ≡ x)
    → level_at (each change ls row) i ≡ level_at row i
each_stands change [] row i same = refl
each_stands change (l ∷ ls) [] i same = refl
each_stands change (l ∷ ls) (x ∷ xs) zero same = same (omega arith) x
each_stands change (l ∷ ls) (x ∷ xs) (suc i) same = each_stands change ls xs i (λ h. same (omega arith))

pub set_up_stands : (s : Site) (row : List Level) (i : ℕ) → (i < length s.links → guarded (link_at s i) ≡ false) → level_at (each set_up s.links row) i ≡ level_at row i
set_up_stands s row i other = each_stands set_up s.links row i (λ h x. simp (other h))

module _ (s : Site) (i : ℕ) (other : i < length s.links → guarded (link_at s i) ≡ false) where
  act_stands : (now : Standing) (act : Act) (a : ℕ) (r : Result Unit Fault) → level_at (if_accepted r (acted s now act a) now).row i ≡ level_at now.row i
  unfolding acted
  act_stands now act a (Ok _) = each_stands (passes act a) s.links now.row i (λ h x. simp (other h))
  act_stands now act a (Err f) = refl

  call_stands : (now : Standing) (c : Call) → level_at (after_call s now c).row i ≡ level_at now.row i
  call_stands now (Start a) = act_stands now Starts a (act_check s now Starts a)
  call_stands now (Finish a) = act_stands now Finishes a (act_check s now Finishes a)
  call_stands now (Cells j) = refl

  pub calls_stand : (steps : List Step) (now : Standing) → level_at (carried_to s now steps).row i ≡ level_at now.row i
  calls_stand [] now = refl
  calls_stand (x ∷ xs) now = calls_stand xs (after_call s now x.call) ∙ call_stands now x.call
