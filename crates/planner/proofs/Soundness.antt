-- What the code may rely on once the checks have passed.
use Rattle.std.proofs.Common.{◌≡◌, ℕ, List, length, IfOk, Ok, Err, Result, refl}
use Rattle.records.specs.declared.fault.Fault.{Fault}
use Rattle.records.specs.declared.tables.Actor.{Actor}
use Rattle.records.specs.declared.tables.Link.{Link}
use Rattle.planning.specs.Checks.{check_tables}
use Rattle.planning.proofs.Passing.{tables_passed}
use Rattle.planner.specs.Within.{Sound}

pub sound : (actors : List Actor) (links : List Link) (given lead delays reach : ℕ) → check_tables actors links given lead delays reach ≡ Ok tt
    → Sound (length actors) links given delays reach
sound actors links given lead delays reach ok =
    let p = tables_passed actors links given lead delays reach ok in
    record { few = p.few; given_few = p.given_few; links_room = p.links_room; delays_room = p.delays_room; reach_room = p.reach_room; ends = p.ends }

-- the same of a call's answer
pub made_sound : (r : Result Unit Fault) (P : Type 0) → (r ≡ Ok tt → P) → IfOk r (λ _. P)
made_sound (Ok x) P h = h refl
made_sound (Err f) P h = tt
