use Rattle.std.proofs.Common.{◌+◌, ◌*◌, ◌≤◌, ◌++◌, length, take, drop, ap, ◌∙◌, arith}
use Rattle.planning.specs.Backs.{backs}
use Rattle.planning.specs.Costs.{cost_before}
use Rattle.planning.specs.Planning.{drawing}
use Rattle.planner.specs.Slips.{slip_of}
use Rattle.planner.specs.Steps.{ground_of, with_backs}
use Rattle.planner.proofs.Ends.{ends_with_backs}
use Rattle.planner.proofs.Planned.{links_planned, delays_planned, totals_planned}
use Rattle.planner.proofs.plans.plan_live.Goals as goal

pub mark_and_size-after-requires-clause-ends : goal.mark_and_size-after-requires-clause-ends
mark_and_size-after-requires-clause-ends c =
    let links = c.args.links.now in
    let n = length c.args.actors.now in
    let s = c.requires.sound in
    let found = c.add_back_links-all in
    ends_with_backs (ground_of c.args.actors.now (take (n * n) c.args.delays.now) (take c.args.given links)) c.args.lead links c.args.given (omega (arith, s.links_room)) s.ends
    found.result.0 found.ensures.end found.new.links found.ensures.links

pub returns : goal.returns
returns c =
    let actors = c.args.actors.now in
    let links = c.args.links.now in
    let given = c.args.given in
    let lead = c.args.lead in
    let n = length actors in
    let d = drawing actors links given lead c.args.delays.now c.args.reach.now in
    let front = c.requires.surveyed in
    let found = c.add_back_links-all in
    let room : given ≤ length links = omega (arith, c.requires.sound.links_room) in
    let end = found.ensures.end ∙ ap (λ ds. given + length (backs (ground_of actors ds (take given links)) lead)) front in
    let is = found.ensures.links ∙ ap (λ ds. with_backs links given (backs (ground_of actors ds (take given links)) lead)) front in
    let before = found.ensures.cost ∙ ap (λ ds. cost_before actors n ds (take given links)) front in
    let made = c.mark_and_size-after in
    record {
      slip = ap slip_of (totals_planned d room found.result.0 found.new.links end is found.result.1 made.result before made.ensures.cost);
      links = links_planned d room found.result.0 found.new.links end is _ (ap (λ ls. ls ++ drop found.result.0 found.new.links) made.ensures.links);
      delays = delays_planned d room found.result.0 found.new.links end is made.new.delays made.ensures.delays;
      room = omega (arith, found.ensures.end, found.ensures.within, c.requires.sound.links_room);
      reach = found.ensures.reach;
    }
