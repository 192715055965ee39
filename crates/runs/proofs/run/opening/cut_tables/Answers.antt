use Rattle.std.proofs.Common.{sym, ◌∙◌}
use Rattle.planner.specs.Slips.{totals_of}
use Rattle.runs.proofs.Opened.{passed_fits}
use Rattle.runs.proofs.run.opening.cut_tables.Goals as goal

pub invariant_of-result : goal.invariant_of-result
invariant_of-result g c = record {
  fit = λ e. (passed_fits g.G.Guard.LARGEST (totals_of c.args.slip.now) c.args.actors.now _ c.args.links.now _ c.args.row c.actors_of.ensures c.links_of.ensures (sym c.check_open.ensures ∙ e)).0;
}

pub returns-clause-guards : goal.returns-clause-guards
returns-clause-guards g c e =
    (passed_fits g.G.Guard.LARGEST (totals_of c.args.slip.now) c.args.actors.now _ c.args.links.now _ c.args.row c.actors_of.ensures c.links_of.ensures (sym c.check_open.ensures ∙ e)).1
