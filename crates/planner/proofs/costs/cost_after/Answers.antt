use Rattle.std.proofs.Common.{◌≡◌, rules, sym, refl, ◌∙◌}
use Rattle.std.proofs.iter.runs.Made.{chains}
use Rattle.std.specs.List.{sum_by}
use Rattle.std.proofs.lemmas.List.Recursion.{is_sum_by}
use Rattle.planning.specs.Costs.{cost_after, link_cost_after}
use Rattle.planner.proofs.costs.cost_after.Goals as goal

pub returns : goal.returns
returns c =
    let links = c.args.links.now in
    let e : c.sum.result ≡ sum_by link_cost_after links = search (rules, chains) in
    e ∙ sym (is_sum_by cost_after link_cost_after refl (λ l ls. refl) links)
