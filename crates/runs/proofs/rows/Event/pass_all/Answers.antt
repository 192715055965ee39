use Rattle.std.proofs.Common.{rules}
use Rattle.running.specs.Rows.{concerns, passes}
use Rattle.runs.proofs.Changing.{changed_levels, changed_stand}
use Rattle.runs.proofs.rows.Event.pass_all.Goals as goal

pub returns-clause-levels : goal.returns-clause-levels
returns-clause-levels g c = changed_levels _ g.G.Guard.level (passes c.args.self.act c.args.self.actor) (λ l x y p. search rules) c.args.links.now c.args.row.now c.change_each.new.row c.change_each.ensures

pub returns-clause-stand : goal.returns-clause-stand
returns-clause-stand g c = changed_stand _ (concerns c.args.self.act c.args.self.actor) (λ l x y p e. search rules) c.args.links.now c.args.row.now c.change_each.new.row c.change_each.ensures
