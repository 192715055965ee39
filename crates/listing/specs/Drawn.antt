-- What reading and planning together promise: the listing's bytes can be made from what they leave.
use Rattle.std.specs.Prelude.{◌≡◌, ℕ, ◌+◌, ◌≤◌, List, length, take, IfOk, Ok, Err, Result}
use Rattle.records.specs.declared.fault.Fault.{Fault}
use Rattle.records.specs.declared.tables.Actor.{Actor}
use Rattle.records.specs.declared.tables.Link.{Link}
use Rattle.paths.specs.declared.delay.Delay.{Delay}
use Rattle.paths.specs.declared.reach.Reach.{Reach}
use Rattle.planner.specs.Slips.{totals_of}
use Rattle.planner.specs.declared.plans.Slip.{Slip}
use Rattle.listing.specs.Lines.{refusal_line}
use Rattle.listing.specs.Listed.{Listed}
use Rattle.listing.specs.Listing.{plan_bytes}

-- the bytes to list for an answer, where the table holds these links
abbrev pub answer_bytes : Result Slip Fault → List Link → List ℕ
answer_bytes (Ok s) links = plan_bytes (totals_of s) (take (s.given + s.back) links)
answer_bytes (Err f) links = refusal_line f

pub record Drawn (r : Result Slip Fault) (all : Listed) (actors : List Actor) (links : List Link) (delays : List Delay) (reach : List Reach) : Type 0 where
  pub bytes : answer_bytes r links ≡ all.bytes
  pub room : IfOk r (λ s. s.given + s.back ≤ length links)
  pub actors_hold : actors ≡ all.actors
  pub links_hold : links ≡ all.links
  pub delays_hold : delays ≡ all.delays
  pub reach_holds : reach ≡ all.reach
