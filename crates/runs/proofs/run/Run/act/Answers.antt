use Rattle.std.proofs.Common.{◌≡◌, map, set, Err, sym, ap, ◌∙◌, arith}
use Rattle.std.proofs.lemmas.List.{set-get_or}
use Rattle.running.specs.declared.Entry.{Entry}
use Rattle.running.specs.Entries.{rested, entry_check, entry_if}
use Rattle.running.specs.Runs.{Standing, standing, fault_of, act_check, has_turn, entry_at}
use Rattle.runs.specs.Seen.{site_of_run, standing_of_run}
use Rattle.runs.proofs.Acting.{entry_decides, refused_stands}
use Rattle.runs.proofs.run.Run.act.Goals as goal

-- a refused entry is written as it was
pub returns-in_err-advance-clause-standing : goal.returns-in_err-advance-clause-standing
returns-in_err-advance-clause-standing g c =
    let self = c.args.self.now in
    let act = c.args.event.act in
    let actor = c.args.event.actor in
    let s = site_of_run self in
    let before : Standing = standing_of_run g.G.Guard.level self in
    let refusal = c.in_err-advance.field-0.0 in
    let entry : Entry = entry_at before actor in
    let check : Err refusal ≡ entry_check act actor (has_turn s before actor) c.blocked-blocked.result entry = c.in_err-advance.ensures.answer in
    let refused : act_check s before act actor ≡ Err refusal =
    entry_decides s before act actor (ap fault_of c.in_ok-self.was) (omega (arith, c.if-actor-self.false))
    ∙ ap (λ b. entry_check act actor (has_turn s before actor) b entry) (sym c.blocked-blocked.ensures) ∙ sym check in
    let same : c.advance.new.entry ≡ entry = c.in_err-advance.ensures.entry ∙ ap (λ r. entry_if r act entry) (sym check) in
    ap (λ e. standing (fault_of self.tables.sound) (set self.entries actor e) self.turns (map g.G.Guard.level self.row.now)) same
    ∙ ap (λ es. standing (fault_of self.tables.sound) es self.turns (map g.G.Guard.level self.row.now)) (set-get_or self.entries actor rested)
    ∙ sym (refused_stands s before act actor refusal refused)
