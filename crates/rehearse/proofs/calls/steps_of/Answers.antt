-- The chain gives the calls of the lines that make one.
use Rattle.std.proofs.Common.{rules, tests}
use Rattle.std.proofs.lemmas.Iterator.{YieldsList-from_map, items_from_collect}
use Rattle.std.proofs.lemmas.Iterator.Consumers.{YieldsList-from_filter_map, YieldsList-at}
use Rattle.reader.specs.Lines.{lines_left, number_next}
use Rattle.reader.proofs.Cuts.{YieldsList-from_lines}
use Rattle.rehearse.specs.Calls.{call_of}
use Rattle.rehearse.proofs.Lines.{to_do, steps_are}
use Rattle.rehearse.proofs.calls.steps_of.Goals as goal

pub returns : goal.returns
returns c =
    rw (steps_are (number_next c.args.calls) (lines_left c.args.calls))
    (items_from_collect _ c.collect.ensures.ran
    (YieldsList-from_map _ to_do
    (YieldsList-at c.map.ensures.source
    (YieldsList-from_filter_map _ (λ line. call_of line.1)
    (YieldsList-at c.filter_map.ensures.source (YieldsList-from_lines c.args.calls))
    c.filter_map.ensures.closure (λ x r q k. search (rules, tests))))
    c.map.ensures.closure (λ x r q k. search (rules, tests))))
