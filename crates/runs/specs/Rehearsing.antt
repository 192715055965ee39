-- What a rehearsal does with its calls and its guards.
use Rattle.std.specs.Prelude.{◌≡◌, ℕ, List, map}
use Rattle.records.specs.declared.tables.Actor.{Actor}
use Rattle.records.specs.declared.tables.Link.{Link}
use Rattle.planning.specs.Planning.{Given, Totals, planned}
use Rattle.guards.specs.Levels.{Level}
use Rattle.running.specs.declared.Step.{Step}
use Rattle.running.specs.Rehearsals.{Rehearsed, answer_values, rehearsed, rehearsed_from}
use Rattle.running.specs.Runs.{site_of, opened}
use Rattle.runs.specs.Alone.{Stand, guarded_in, plan_links_of}

-- calls made in a run that is opened on these tables with guards of this largest size
abbrev pub rehearsed_on : ℕ → Totals → List Actor → List Link → List Level → List Step → Rehearsed
rehearsed_on largest t actors links row steps = rehearsed_from (site_of t actors links) (opened largest t actors links row) steps

-- drawing d rehearsed with guards of this largest size, seen by their levels: the calls asked, as they were told, the row before
-- and after, and the links as planning left them
pub record Rehearses {G : Type 0} (level : G → Level) (largest : ℕ) (d : Given) (links : List Link) (before after : List G) (asked told : List Step) : Type 0 where
  pub steps : told ≡ (rehearsed largest d (map level before) asked).steps
  pub answers : map (λ x. answer_values x.answer) told ≡ map (λ x. answer_values x.answer) (rehearsed largest d (map level before) asked).steps
  pub levels : map level after ≡ (rehearsed largest d (map level before) asked).row
  -- which guards are the very same afterwards
  pub stand : Stand (guarded_in largest d (map level before)) (plan_links_of (planned d).answer links) before after
