use Rattle.std.proofs.Common.{arith, ◌≡◌, Ok, Err, Result, ap}
use Rattle.records.specs.Faults.{told}
use Rattle.records.specs.declared.fault.Fault.{Fault}
use Rattle.running.specs.declared.Cells.{Cells}
use Rattle.running.specs.Runs.{cells_answer, cells_values}
use Rattle.runs.specs.Seen.{site_of_run, standing_of_run}
use Rattle.runs.proofs.Asking.{unknown_tells, cross_tells}
use Rattle.runs.proofs.run.Run.cells.Goals as goal

pub returns-in-Some-clause-view : goal.returns-in-Some-clause-view
returns-in-Some-clause-view g c =
    let run = c.args.self.now in
    let answer : ◌≡◌ {A = Result Cells Fault} (Ok c.buffer.result) (cells_answer (site_of_run run) (standing_of_run g.G.Guard.level run) c.args.link) = grind (arith, cross_tells) in
    ap (told cells_values) answer

pub returns-in_default-clause-view : goal.returns-in_default-clause-view
returns-in_default-clause-view g c =
    let run = c.args.self.now in
    let answer : ◌≡◌ {A = Result Cells Fault} (Err c.new.result) (cells_answer (site_of_run run) (standing_of_run g.G.Guard.level run) c.args.link) = grind (arith, unknown_tells) in
    ap (told cells_values) answer
