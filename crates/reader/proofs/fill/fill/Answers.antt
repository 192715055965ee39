-- Each turn takes one line, which is never refused.
use Rattle.std.proofs.Common.{rules}
use Rattle.reader.proofs.Filling.{took, filled_lead, filled_actor, filled_link, stopped_entry}
use Rattle.reader.proofs.fill.fill.Goals as goal

pub returns-in_err-entry : goal.returns-in_err-entry
returns-in_err-entry c =
    let h = c.in-Some.ensures.steps in
    absurd
    (stopped_entry c.in-Some.line _ _ _ _ h.0 h.1 c.in_ok-parse.ensures c.in_err-entry.ensures c.loop-line.invariant.2 c.requires.read)

pub loop-line-preserved-in-Lead : goal.loop-line-preserved-in-Lead
loop-line-preserved-in-Lead c =
    let h = c.in-Some.ensures.steps in
    let t = took _ h.0 h.1 c.in_ok-parse.ensures c.in_ok-entry.ensures c.in-Lead.is in
    let f = filled_lead c.in-Lead.lead t c.loop-line.invariant.2 in
    search rules

pub loop-line-preserved-in-Actor : goal.loop-line-preserved-in-Actor
loop-line-preserved-in-Actor c =
    let h = c.in-Some.ensures.steps in
    let t = took _ h.0 h.1 c.in_ok-parse.ensures c.in_ok-entry.ensures c.in-Actor.is in
    let f = filled_actor c.in-Actor.actor t c.loop-line.invariant.2 in
    search rules

pub loop-line-preserved : goal.loop-line-preserved
loop-line-preserved c =
    let h = c.in-Some.ensures.steps in
    let t = took _ h.0 h.1 c.in_ok-parse.ensures c.in_ok-entry.ensures c.in-Link.is in
    let f = filled_link c.in-Link.link t c.loop-line.invariant.2 in
    search rules
