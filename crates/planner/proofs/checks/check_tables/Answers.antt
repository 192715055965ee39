use Rattle.std.proofs.Common.{◌≡◌, length, Err, sym, ap, ◌∙◌}
use Rattle.std.proofs.lemmas.Result.{err_from_is_err_and}
use Rattle.records.specs.declared.fault.Layer.TheVariants.{Table}
use Rattle.records.specs.declared.refusal.Refusal.TheVariants as refusal
use Rattle.planning.specs.Checks.{refuse_first, check_counts, bad_actor, check_tables}
use Rattle.planner.proofs.Exits.{stops, goes_on}
use Rattle.planner.proofs.Soundness.{sound, made_sound}
use Rattle.planner.proofs.checks.check_tables.Goals as goal

pub returns-in_err-check_counts-clause-answer : goal.returns-in_err-check_counts-clause-answer
unfolding check_tables
returns-in_err-check_counts-clause-answer c =
    let p = err_from_is_err_and c.from_residual.result c.from_residual.ensures.1 in
    stops (check_counts (length c.args.actors.now) c.args.given (length c.args.links.now) c.args.lead c.args.delays c.args.reach) _ _ _ (p.1 ∙ ap Err p.2) c.in_err-check_counts.ensures

pub returns-in_err-check_actors-clause-answer : goal.returns-in_err-check_actors-clause-answer
unfolding check_tables
returns-in_err-check_actors-clause-answer c =
    let p = err_from_is_err_and c.from_residual-in_err-check_actors.result c.from_residual-in_err-check_actors.ensures.1 in
    goes_on (check_counts (length c.args.actors.now) c.args.given (length c.args.links.now) c.args.lead c.args.delays c.args.reach) _ _ c.in_ok-check_counts.ensures
    (stops (refuse_first bad_actor refusal.BadActor Table 0 c.args.actors.now) _ _ _ (p.1 ∙ ap Err p.2) c.in_err-check_actors.ensures)

pub returns : goal.returns
unfolding check_tables
returns c =
    let actors = c.args.actors.now in
    let links = c.args.links.now in
    let answer : c.check_links.result ≡ check_tables actors links c.args.given c.args.lead c.args.delays c.args.reach =
    goes_on (check_counts (length actors) c.args.given (length links) c.args.lead c.args.delays c.args.reach) _ _ c.in_ok-check_counts.ensures
    (goes_on (refuse_first bad_actor refusal.BadActor Table 0 actors) _ _ c.in_ok-check_actors.ensures
    c.check_links.ensures) in
    record { answer = answer; sound = made_sound _ _ (λ e. sound actors links c.args.given c.args.lead c.args.delays c.args.reach (sym answer ∙ e)) }
