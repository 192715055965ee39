use Rattle.std.proofs.Common.{◌+◌, ◌*◌, ◌≤◌, length, take, IfOk, Ok, Err, sym, ap, ◌∙◌, subst}
use Rattle.std.proofs.lemmas.List.{take_at}
use Rattle.std.proofs.lemmas.Result.{err_from_is_err_and}
use Rattle.records.specs.Faults.{told}
use Rattle.paths.specs.Models.{reach_ops, delay_ops}
use Rattle.planning.specs.declared.Sight.TheVariants.{Directed, Loose}
use Rattle.planning.specs.Planning.{drawing, over, base_edges, edges_with, all_links, base_delays, free_paths, plan_ground, plan_delays}
use Rattle.planning.proofs.Standing.{length_paths_over}
use Rattle.meaning.proofs.Promised.{promise}
use Rattle.planner.specs.Slips.{slip_of, slip_answer, slip_values}
use Rattle.planner.proofs.Planned.{over_over, planned_refused, planned_live, totals_whatever, links_whatever}
use Rattle.planner.proofs.plans.plan.Goals as goal

pub returns-in_err-survey : goal.returns-in_err-survey
returns-in_err-survey c =
    let d = drawing c.args.actors.now c.args.links.now c.args.given c.args.lead c.args.delays.now c.args.reach.now in
    let p = err_from_is_err_and c.from_residual.result c.from_residual.ensures.1 in
    let f = c.in_err-survey.field-0.0 in
    let same = planned_refused d f c.in_err-survey.ensures.answer in
    let answer = p.1 ∙ ap Err p.2 ∙ sym (ap slip_answer same.answer) in
    record {
      answer = answer;
      view = ap (told slip_values) answer;
      links = sym same.links;
      delays = c.survey.ensures.delays ∙ sym same.delays;
      room = subst (λ r. IfOk r (λ s. s.given + s.back ≤ length c.args.links.now)) (sym p.1) tt;
      reach = c.survey.ensures.reach ∙ sym same.reach;
      promise = promise d;
    }

pub plan_live-requires-clause-surveyed : goal.plan_live-requires-clause-surveyed
plan_live-requires-clause-surveyed c =
    let n = length c.args.actors.now in
    let d = drawing c.args.actors.now c.args.links.now c.args.given c.args.lead c.args.delays.now c.args.reach.now in
    let on = planned_live d c.in_ok-survey.ensures.answer in
    ap (take (n * n)) (c.survey.ensures.delays ∙ ap (λ o. o.delays) on.0)
    ∙ take_at (base_delays d) _ (n * n) (length_paths_over delay_ops n Directed (base_edges d))

pub returns : goal.returns
returns c =
    let n = length c.args.actors.now in
    let d = drawing c.args.actors.now c.args.links.now c.args.given c.args.lead c.args.delays.now c.args.reach.now in
    let on = planned_live d c.in_ok-survey.ensures.answer in
    let delays = c.survey.ensures.delays ∙ ap (λ o. o.delays) on.0 in
    let reach = c.survey.ensures.reach ∙ ap (λ o. o.reach) on.0 in
    let call = c.plan_live.ensures in
    let answer =
    ap Ok (call.slip ∙ ap slip_of (totals_whatever d c.survey.new.delays c.survey.new.reach))
    ∙ sym (ap (λ o. slip_answer o.answer) on.1) in
    let same-delays = length_paths_over delay_ops n Directed (edges_with d (all_links d)) ∙ sym (length_paths_over delay_ops n Directed (base_edges d)) in
    let same-reach = length_paths_over reach_ops n Loose (base_edges d) ∙ sym (length_paths_over reach_ops n Directed (base_edges d)) in
    record {
      answer = answer;
      view = ap (told slip_values) answer;
      links = call.links ∙ ap (λ ls. over ls d.links) (links_whatever d c.survey.new.delays c.survey.new.reach) ∙ sym (ap (λ o. o.links) on.1);
      delays = call.delays ∙ ap (over (plan_delays d)) delays ∙ over_over (plan_delays d) (base_delays d) d.delays same-delays ∙ sym (ap (λ o. o.delays) on.1);
      room = call.room;
      reach = call.reach ∙ ap (over (plan_ground d).joined) reach ∙ over_over (plan_ground d).joined (free_paths d) d.reach same-reach ∙ sym (ap (λ o. o.reach) on.1);
      promise = promise d;
    }
