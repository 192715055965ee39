use Rattle.std.proofs.Common.{rules}
use Rattle.std.proofs.iter.runs.Made.{chains}
use Rattle.planner.proofs.Orders.{last_found}
use Rattle.planner.proofs.edges.last_on.Goals as goal

pub returns-clause-value : goal.returns-clause-value
returns-clause-value c =
    last_found c.args.actors.now c.args.processor c.rposition.result (λ e k h. search (rules, chains)) (λ i e. search (rules, chains))
