-- The slip that stands for an accepted drawing, and how it is told.
use Rattle.std.specs.Prelude.{ℕ, List, [], ◌∷◌, Ok, Err, Result}
use Rattle.records.specs.declared.fault.Fault.{Fault}
use Rattle.planning.specs.Planning.{Totals}
use Rattle.planner.specs.declared.plans.Slip.{Slip}

abbrev pub slip_of : Totals → Slip
slip_of t = record { actors = t.actors; given = t.given; back = t.back; lead = t.lead; before = t.before; after = t.after }

abbrev pub totals_of : Slip → Totals
totals_of s = record { actors = s.actors; given = s.given; back = s.back; lead = s.lead; before = s.before; after = s.after }

abbrev pub slip_answer : Result Totals Fault → Result Slip Fault
slip_answer (Ok t) = Ok (slip_of t)
slip_answer (Err f) = Err f

-- the six numbers of a slip
abbrev pub slip_values : Slip → List ℕ
slip_values s = s.actors ∷ s.given ∷ s.back ∷ s.lead ∷ s.before ∷ s.after ∷ []
