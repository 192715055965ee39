use Rattle.std.proofs.Common.{refl, ◌∙◌, arith}
use Rattle.records.specs.Tables.{processor_of}
use Rattle.planner.proofs.Orders.{last_before, order_edge_is, order_edge_first}
use Rattle.planner.proofs.edges.order_edge.Goals as goal

pub returns-in-Some-clause-value : goal.returns-in-Some-clause-value
returns-in-Some-clause-value c =
    let actors = c.args.actors.now in
    let v = c.args.v in
    order_edge_is actors v _ _ (c.in-Some.ensures.value ∙ last_before actors (processor_of actors v) v (omega arith)) refl

pub returns-in-None-clause-value : goal.returns-in-None-clause-value
returns-in-None-clause-value c =
    let actors = c.args.actors.now in
    let v = c.args.v in
    order_edge_first actors v c.unwrap_or.result c.last_on-in-None.result (c.in-None.ensures.value ∙ last_before actors (processor_of actors v) v (omega arith))
    c.last_on-in-None.ensures.value c.unwrap_or.ensures
