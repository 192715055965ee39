-- The answer of a chain of checks, where one of them refuses and where all pass.
use Rattle.std.proofs.Common.{◌≡◌, Ok, Err, Result, ap, ◌∙◌}
use Rattle.records.specs.declared.fault.Fault.{Fault}
use Rattle.records.specs.Faults.{then}

pub stops : (check : Result Unit Fault) (next : Unit → Result Unit Fault) (r : Result Unit Fault) (f : Fault) → r ≡ Err f → Err f ≡ check → r ≡ then check next
stops check next r f p q = p ∙ ap (λ x. then x next) q

pub goes_on : (check : Result Unit Fault) (next : Unit → Result Unit Fault) (r : Result Unit Fault) → Ok tt ≡ check → r ≡ next tt → r ≡ then check next
goes_on check next r q p = p ∙ ap (λ x. then x next) q
