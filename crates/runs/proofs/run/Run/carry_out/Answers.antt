use Rattle.std.proofs.Common.{ap, ◌∙◌, subst}
use Rattle.running.specs.declared.Answer.TheVariants.{Open}
use Rattle.running.specs.declared.Call.TheVariants.{Start}
use Rattle.running.specs.Runs.{fault_of, site}
use Rattle.runs.specs.declared.run.Tables.{Tables}
use Rattle.runs.specs.Alone.{Stand, guarded_if}
use Rattle.runs.specs.Seen.{site_of_run, standing_of_run}
use Rattle.runs.proofs.Calling.{stand_on, call_more}
use Rattle.runs.proofs.run.Run.carry_out.Goals as goal

pub loop-step-preserved : goal.loop-step-preserved
loop-step-preserved g c =
    let level = g.G.Guard.level in
    let first = c.args.self.now in
    let run = c.loop-step.self in
    let last = c.call-step.new.self in
    let call = c.call-step.ensures in
    let (written, stands, left, kept) = c.loop-step.invariant in
    let (tables, slip, named) = kept in
    let (new-tables, new-slip, new-named) = call.kept in
    let more = call_more (site_of_run first) (site_of_run run) (standing_of_run level first) (standing_of_run level run) (standing_of_run level last) c.args.steps.now c.loop-step.steps
    c.loop-step.step-index (record { call = Start 0; answer = Open }) c.call-step.result
    (ap (λ (t : Tables). site t.actors.now t.links.now) tables) stands written c.loop-step-test.true call.answer call.standing in (
      more.0,
      more.1,
      stand_on (guarded_if (fault_of first.tables.sound)) first.tables.links.now first.row.now run.row.now last.row.now left
          (subst (λ (t : Tables). Stand (guarded_if (fault_of t.sound)) t.links.now run.row.now last.row.now) tables call.stand),
      (new-tables ∙ tables, new-slip ∙ slip, new-named ∙ named),
    )
