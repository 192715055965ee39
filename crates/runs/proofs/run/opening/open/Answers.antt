use Rattle.std.proofs.Common.{◌≡◌, map, length, sym, ap, ◌∙◌}
use lib.ListN.{length-map}
use Rattle.planner.specs.Slips.{totals_of}
use Rattle.running.specs.Runs.{fault_of, open_check, standing, all_rested}
use Rattle.runs.specs.Openings.{turns_if}
use Rattle.runs.proofs.Opened.{opened_is, opens_plans}
use Rattle.runs.proofs.run.opening.open.Goals as goal

pub returns-clause-standing : goal.returns-clause-standing
returns-clause-standing g c =
    let t = totals_of c.args.slip in
    let level = g.G.Guard.level in
    let row = c.args.row.now in
    let cut = c.cut_tables-tables.ensures in
    let fault = fault_of c.cut_tables-tables.result.sound in
    let first = c.cut_tables-tables.result.actors.now in
    let check : fault_of c.cut_tables-tables.result.sound ≡ fault_of (open_check g.G.Guard.LARGEST (totals_of c.args.slip) c.args.actors.now c.args.links.now (length (map g.G.Guard.level c.args.row.now))) =
    ap fault_of cut.sound ∙ ap (λ k. fault_of (open_check g.G.Guard.LARGEST t c.args.actors.now c.args.links.now k)) (sym (length-map row level)) in
    ap (λ ts. standing fault all_rested ts (map level c.prepare-turns.new.row)) c.prepare-turns.ensures.turns
    ∙ ap (standing fault all_rested (turns_if fault first)) c.prepare-turns.ensures.levels
    ∙ opened_is g.G.Guard.LARGEST t c.args.actors.now c.args.links.now (map level row) fault first c.cut_tables-tables.result.links.now check cut.actors cut.links

pub returns-clause-opens : goal.returns-clause-opens
returns-clause-opens g c =
    let t = totals_of c.args.slip in
    let level = g.G.Guard.level in
    let row = c.args.row.now in
    opens_plans g.G.Guard.LARGEST t c.args.actors.now c.args.links.now (map level row) (length row) (fault_of c.cut_tables-tables.result.sound) (length-map row level)
    (ap fault_of c.cut_tables-tables.ensures.sound ∙ ap (λ k. fault_of (open_check g.G.Guard.LARGEST t c.args.actors.now c.args.links.now k)) (sym (length-map row level)))
