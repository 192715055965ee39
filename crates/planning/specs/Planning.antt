-- Planning as a whole: what it answers, and what every lent memory holds afterwards.
use Rattle.std.specs.Prelude.{ℕ, List, ◌++◌, map, length, take, drop, Ok, Err, Result}
use Rattle.records.specs.declared.fault.Fault.{Fault}
use Rattle.records.specs.declared.tables.Actor.{Actor}
use Rattle.records.specs.declared.tables.Edge.{Edge}
use Rattle.records.specs.declared.tables.Link.{Link}
use Rattle.records.specs.Tables.{link_edge}
use Rattle.paths.specs.declared.delay.Delay.{Delay}
use Rattle.paths.specs.declared.reach.Reach.{Reach}
use Rattle.planning.specs.Edges.{orders}
use Rattle.planning.specs.Tables.{least_delays, delay_free, parts}
use Rattle.planning.specs.Checks.{check_tables, check_cycles}
use Rattle.planning.specs.Backs.{Ground, backs}
use Rattle.planning.specs.Marks.{marked, sized}
use Rattle.planning.specs.Costs.{cost_before, cost_after}

-- what a caller lends and says
pub record Given : Type 0 where
  pub actors : List Actor
  pub links : List Link
  -- how many of the links are given
  pub given : ℕ
  pub lead : ℕ
  pub delays : List Delay
  pub reach : List Reach

abbrev pub drawing : List Actor → List Link → ℕ → ℕ → List Delay → List Reach → Given
drawing actors links given lead delays reach =
    record { actors = actors; links = links; given = given; lead = lead; delays = delays; reach = reach }

-- the answer, and what the lent memory holds afterwards
pub record Outcome (X : Type 0) : Type 0 where
  pub answer : Result X Fault
  pub links : List Link
  pub delays : List Delay
  pub reach : List Reach

-- the numbers on the slip of an accepted drawing
pub record Totals : Type 0 where
  pub actors : ℕ
  pub given : ℕ
  pub back : ℕ
  pub lead : ℕ
  pub before : ℕ
  pub after : ℕ

-- a table over a workspace, whose later entries stand
abbrev pub over : {M : Type 0} → List M → List M → List M
over table cells = table ++ drop (length table) cells

-- the edges of the drawing with these links
abbrev pub edges_with : Given → List Link → List Edge
edges_with d links = orders d.actors ++ map link_edge links

abbrev pub base_edges : Given → List Edge
base_edges d = edges_with d (take d.given d.links)

-- nothing is changed
abbrev pub refused : {X : Type 0} → Given → Fault → Outcome X
refused d f = record { answer = Err f; links = d.links; delays = d.delays; reach = d.reach }

-- after a check
abbrev pub unless : {X : Type 0} → Result Unit Fault → (Fault → Outcome X) → Outcome X → Outcome X
unless (Ok _) refusal go = go
unless (Err f) refusal go = refusal f

-- counts, tables and numbers
abbrev pub tables_check : Given → Result Unit Fault
tables_check d = check_tables d.actors d.links d.given d.lead (length d.delays) (length d.reach)

-- who is reached by delay-free edges
abbrev pub free_paths : Given → List Reach
free_paths d = delay_free (length d.actors) (base_edges d)

-- the least delays without back links
abbrev pub base_delays : Given → List Delay
base_delays d = least_delays (length d.actors) (base_edges d)

abbrev pub cycles_check : Given → Result Unit Fault
cycles_check d = check_cycles (length d.actors) (free_paths d)

abbrev pub deadlocked : {X : Type 0} → Given → Fault → Outcome X
deadlocked d f = record { answer = Err f; links = d.links; delays = d.delays; reach = over (free_paths d) d.reach }

abbrev pub live : Given → Outcome Unit
live d = record { answer = Ok tt; links = d.links; delays = over (base_delays d) d.delays; reach = over (free_paths d) d.reach }

-- the checks up to deadlock, and the least delays without back links
unfoldable pub surveyed : Given → Outcome Unit
surveyed d = unless (tables_check d) (refused d) (unless (cycles_check d) (deadlocked d) (live d))

-- what the groups of the drawing are read off
abbrev pub plan_ground : Given → Ground
plan_ground d = record { actors = d.actors; delays = base_delays d; joined = parts (length d.actors) (base_edges d) }

-- the back links, without their sizes
abbrev pub back_links : Given → List Link
back_links d = backs (plan_ground d) d.lead

abbrev pub all_links : Given → List Link
all_links d = take d.given d.links ++ back_links d

-- the least delays, back links included
abbrev pub plan_delays : Given → List Delay
plan_delays d = least_delays (length d.actors) (edges_with d (all_links d))

-- the given and the back links, each with its mark and size
unfoldable pub plan_links : Given → List Link
plan_links d =
    sized (length d.actors) (plan_delays d)
    (marked d.actors (map link_edge (all_links d)) (take d.given d.links) ++ back_links d)

unfoldable pub plan_totals : Given → Totals
plan_totals d = record {
  actors = length d.actors;
  given = d.given;
  back = length (back_links d);
  lead = d.lead;
  before = cost_before d.actors (length d.actors) (base_delays d) (take d.given d.links);
  after = cost_after (plan_links d);
}

-- the plan of an accepted drawing
abbrev pub accepted : Given → Outcome Totals
accepted d = record {
  answer = Ok (plan_totals d);
  links = over (plan_links d) d.links;
  delays = over (plan_delays d) d.delays;
  reach = over (plan_ground d).joined d.reach;
}

unfoldable pub planned : Given → Outcome Totals
planned d = unless (tables_check d) (refused d) (unless (cycles_check d) (deadlocked d) (accepted d))
