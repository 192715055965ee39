use Rattle.std.proofs.Common.{◌≡◌, ◌+◌, List, map, take, sym, ap, ◌∙◌, subst}
use Rattle.records.specs.declared.tables.Link.{Link}
use Rattle.planning.specs.Planning.{drawing, planned}
use Rattle.planner.specs.Slips.{totals_of}
use Rattle.running.specs.declared.Step.{Step}
use Rattle.running.specs.Rehearsals.{Rehearsed, answer_values, rehearsed}
use Rattle.running.specs.Runs.{opened}
use Rattle.running.proofs.Claimed.{claim}
use Rattle.runs.specs.Alone.{Stand, guarded_if}
use Rattle.runs.specs.Rehearsing.{rehearsed_on}
use Rattle.runs.proofs.Rehearsing.{accepted_plan, when_accepted, own_law, stand_accepted}
use Rattle.runs.proofs.rehearsals.rehearse.Goals as goal

pub returns-clause-rehearsal : goal.returns-clause-rehearsal
returns-clause-rehearsal g c =
    let largest = g.G.Guard.LARGEST in
    let level = g.G.Guard.level in
    let d = drawing c.args.actors.now c.args.links.now c.args.given c.args.lead c.args.delays.now c.args.reach.now in
    let actors = c.args.actors.now in
    let levels = map level c.args.row.now in
    let steps = c.args.steps.now in
    let slip = c.in_ok-slip.slip in
    let t = totals_of slip in
    let plan = c.in_ok-slip.ensures in
    let run = c.run_plan.ensures in
    let ok = accepted_plan (planned d).answer slip plan.answer in
    let left = c.run_plan.new.row in
    let whole : rehearsed_on largest t actors c.plan.new.links levels steps ≡ rehearsed largest d levels steps =
    ap (λ (ls : List Link). rehearsed_on largest t actors ls levels steps) plan.links ∙ sym (when_accepted largest d levels steps t ok) in
    let same-steps : c.run_plan.new.steps ≡ (rehearsed largest d levels steps).steps = run.steps ∙ ap (λ (r : Rehearsed). r.steps) whole in
    let same-levels : map level left ≡ (rehearsed largest d levels steps).row = run.levels ∙ ap (λ (r : Rehearsed). r.row) whole in
    record {
      steps = same-steps;
      answers = ap (map (λ (x : Step). answer_values x.answer)) same-steps;
      levels = same-levels;
      stand = stand_accepted largest d levels steps t ok c.plan.new.links c.args.row.now left
          (subst (λ (ls : List Link). Stand (guarded_if (opened largest t actors ls levels).fault) (take (slip.given + slip.back) c.plan.new.links) c.args.row.now left) plan.links run.stand);
    }

pub returns-clause-claim : goal.returns-clause-claim
returns-clause-claim g c =
    claim (drawing c.args.actors.now c.args.links.now c.args.given c.args.lead c.args.delays.now c.args.reach.now)

pub returns-clause-law : goal.returns-clause-law
returns-clause-law g c =
    let d = drawing c.args.actors.now c.args.links.now c.args.given c.args.lead c.args.delays.now c.args.reach.now in
    let made = returns-clause-rehearsal g c in
    own_law g.G.Guard.LARGEST d (map g.G.Guard.level c.args.row.now) c.args.steps.now c.run_plan.new.steps (map g.G.Guard.level c.run_plan.new.row) made.steps made.levels
