use Rattle.std.proofs.Common.{◌≡◌, ◌<◌, length, rules, sym, refl, ◌∙◌, subst}
use borrow.Author.Tests.{tests}
use Rattle.std.proofs.iter.runs.Made.{chains}
use Rattle.std.specs.List.{sum_by}
use Rattle.std.proofs.lemmas.Iterator.{YieldsList-from_slice}
use Rattle.std.proofs.lemmas.Iterator.Adapters.{serves_from_places}
use Rattle.std.proofs.lemmas.List.{get_or_default}
use Rattle.std.proofs.lemmas.List.Recursion.{is_sum_by}
use Rattle.records.specs.declared.tables.Link.{Link}
use Rattle.records.specs.Tables.{no_link}
use Rattle.planning.specs.Costs.{cost_before, link_cost_before}
use Rattle.planner.proofs.costs.cost_before.Goals as goal

pub sum-requires-clause-can : goal.sum-requires-clause-can
sum-requires-clause-can c =
    let n = length c.args.basis.now.actors.now in
    let links = c.args.links.now in (
      tt,
      serves_from_places (YieldsList-from_slice links cc) (λ x q k. search (rules, tests)) (λ x k h e.
          let both : (x.now.sender < n) × (x.now.receiver < n) =
          subst (λ (l : Link). (l.sender < n) × (l.receiver < n)) (sym (e ∙ get_or_default links k x.now no_link h)) (c.requires.ends k h) in
          search rules),
    )

pub returns : goal.returns
returns c =
    let links = c.args.links.now in
    let cost = link_cost_before c.args.basis.now.actors.now (length c.args.basis.now.actors.now) c.args.basis.now.delays.cells.now in
    let e : c.sum.result ≡ sum_by cost links = search (rules, chains) in
    e ∙ sym (is_sum_by (cost_before c.args.basis.now.actors.now (length c.args.basis.now.actors.now) c.args.basis.now.delays.cells.now) cost refl (λ l ls. refl) links)
