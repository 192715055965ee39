-- The listing of a text, and what the lent memory holds afterwards.
use Rattle.std.specs.Prelude.{ℕ, ◌+◌, List, length, take, Ok, Err, Result}
use Rattle.records.specs.declared.fault.Fault.{Fault}
use Rattle.records.specs.declared.tables.Actor.{Actor}
use Rattle.records.specs.declared.tables.Link.{Link}
use Rattle.paths.specs.declared.delay.Delay.{Delay}
use Rattle.paths.specs.declared.reach.Reach.{Reach}
use Rattle.reader.specs.Reading.{Drawing, reading, actors_after, links_after}
use Rattle.planning.specs.Planning.{Totals, Outcome, drawing, planned}
use Rattle.listing.specs.Lines.{refusal_line}
use Rattle.listing.specs.Listing.{plan_bytes}

-- what is listed, and what tables and workspaces hold
pub record Listed : Type 0 where
  pub bytes : List ℕ
  pub actors : List Actor
  pub links : List Link
  pub delays : List Delay
  pub reach : List Reach

-- a plan's listing, or its refusal's line
abbrev pub outcome_bytes : Result Totals Fault → List Link → List ℕ
outcome_bytes (Ok t) links = plan_bytes t (take (t.given + t.back) links)
outcome_bytes (Err f) links = refusal_line f

-- the plan of what was read, over tables that hold it
abbrev pub plan_of : Drawing → List Link → List Delay → List Reach → Outcome Totals
plan_of d links delays reach = planned (drawing d.actors (links_after (Ok d) links) (length d.links) d.lead delays reach)

abbrev pub listed_plan : Drawing → List Actor → Outcome Totals → Listed
listed_plan d actors o = record {
  bytes = outcome_bytes o.answer o.links;
  actors = actors_after (Ok d) actors;
  links = o.links;
  delays = o.delays;
  reach = o.reach;
}

abbrev pub after_reading : Result Drawing Fault → List Actor → List Link → List Delay → List Reach → Listed
after_reading (Ok d) actors links delays reach = listed_plan d actors (plan_of d links delays reach)
after_reading (Err f) actors links delays reach =
    record { bytes = refusal_line f; actors = actors; links = links; delays = delays; reach = reach }

unfoldable pub listed : List ℕ → List Actor → List Link → List Delay → List Reach → Listed
listed text actors links delays reach = after_reading (reading text (length actors) (length links)) actors links delays reach
