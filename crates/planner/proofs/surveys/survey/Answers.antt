use Rattle.std.proofs.Common.{[], length, take, Err, sym, ap, ◌∙◌}
use Rattle.std.proofs.lemmas.Result.{err_from_is_err_and}
use Rattle.records.specs.Faults.{told}
use Rattle.paths.specs.Models.{reach_ops, delay_ops}
use Rattle.planning.specs.declared.Sight.TheVariants.{Directed}
use Rattle.planning.specs.Checks.{check_cycles}
use Rattle.planning.specs.Planning.{drawing, base_edges}
use Rattle.planning.proofs.Passing.{err_not_ok}
use Rattle.planner.proofs.Soundness.{made_sound}
use Rattle.planner.proofs.Surveying.{filled_over, front_of, survey_refused, survey_deadlocked, survey_live}
use Rattle.planner.proofs.surveys.survey.Goals as goal

pub returns-in_err-check_tables : goal.returns-in_err-check_tables
returns-in_err-check_tables c =
    let d = drawing c.args.actors.now c.args.links.now c.args.given c.args.lead c.args.delays.now c.args.reach.now in
    let p = err_from_is_err_and c.from_residual.result c.from_residual.ensures.1 in
    let f = c.in_err-check_tables.field-0.0 in
    let is = survey_refused d f c.in_err-check_tables.ensures.answer in
    let answer = p.1 ∙ ap Err p.2 ∙ sym (ap (λ o. o.answer) is) in
    record {
      answer = answer;
      view = ap (told (λ _. [])) answer;
      delays = sym (ap (λ o. o.delays) is);
      reach = sym (ap (λ o. o.reach) is);
      sound = made_sound _ _ (λ e. absurd (err_not_ok f (sym (p.1 ∙ ap Err p.2) ∙ e)));
    }

pub returns-in_err-check_cycles : goal.returns-in_err-check_cycles
returns-in_err-check_cycles c =
    let actors = c.args.actors.now in
    let links = c.args.links.now in
    let d = drawing actors links c.args.given c.args.lead c.args.delays.now c.args.reach.now in
    let p = err_from_is_err_and c.from_residual-in_err-check_cycles.result c.from_residual-in_err-check_cycles.ensures.1 in
    let f = c.in_err-check_cycles.field-0.0 in
    let free = filled_over Directed reach_ops actors (take c.args.given links) c.args.reach.now c.fill.new.cells c.fill.ensures in
    let front = front_of Directed reach_ops (length actors) (base_edges d) c.args.reach.now c.fill.new.cells free in
    let is = survey_deadlocked d c.in_ok-check_tables.ensures.answer f (c.in_err-check_cycles.ensures ∙ ap (check_cycles (length actors)) front) in
    let answer = p.1 ∙ ap Err p.2 ∙ sym (ap (λ o. o.answer) is) in
    record {
      answer = answer;
      view = ap (told (λ _. [])) answer;
      delays = sym (ap (λ o. o.delays) is);
      reach = free ∙ sym (ap (λ o. o.reach) is);
      sound = made_sound _ _ (λ _. c.in_ok-check_tables.ensures.sound);
    }

pub returns : goal.returns
returns c =
    let actors = c.args.actors.now in
    let links = c.args.links.now in
    let d = drawing actors links c.args.given c.args.lead c.args.delays.now c.args.reach.now in
    let free = filled_over Directed reach_ops actors (take c.args.given links) c.args.reach.now c.fill.new.cells c.fill.ensures in
    let front = front_of Directed reach_ops (length actors) (base_edges d) c.args.reach.now c.fill.new.cells free in
    let least = filled_over Directed delay_ops actors (take c.args.given links) c.args.delays.now c.fill-2.new.cells c.fill-2.ensures in
    let is = survey_live d c.in_ok-check_tables.ensures.answer (c.in_ok-check_cycles.ensures ∙ ap (check_cycles (length actors)) front) in
    let answer = sym (ap (λ o. o.answer) is) in
    record {
      answer = answer;
      view = ap (told (λ _. [])) answer;
      delays = least ∙ sym (ap (λ o. o.delays) is);
      reach = free ∙ sym (ap (λ o. o.reach) is);
      sound = c.in_ok-check_tables.ensures.sound;
    }
