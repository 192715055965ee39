use Rattle.std.proofs.Common.{◌≡◌, ◌++◌, take, drop}
use Rattle.running.specs.Rehearsals.{carried, carried_to}
use Rattle.running.specs.Runs.{fault_of}
use Rattle.runs.specs.Alone.{Stand, guarded_if}
use Rattle.runs.specs.Seen.{site_of_run, standing_of_run, Kept}
use Rattle.runs.proofs.run.Run.carry_out.Given as goal

abbrev pub invariant-loop-step : goal.invariant-loop-step
invariant-loop-step g l =
    let first = l.initial.self in
    let s = site_of_run first in
    let before = standing_of_run g.G.Guard.level first in
    let asked = take l.step-index l.initial.steps in
    (l.steps ≡ carried s before asked ++ drop l.step-index l.initial.steps)
    × (standing_of_run g.G.Guard.level l.self ≡ carried_to s before asked)
    × Stand (guarded_if (fault_of first.tables.sound)) first.tables.links.now first.row.now l.self.row.now
    × Kept first l.self
