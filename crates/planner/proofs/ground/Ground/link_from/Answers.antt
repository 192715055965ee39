use Rattle.std.proofs.Common.{◌++◌, take, ap, ◌∙◌, sym}
use Rattle.planning.specs.Backs.{link_from}
use Rattle.planner.specs.Views.{seen, listed}
use Rattle.planner.proofs.Found.{listed_few, none_more}
use Rattle.planner.proofs.ground.Ground.link_from.Goals as goal

pub returns-in_default : goal.returns-in_default
returns-in_default c =
    let found = c.args.found.now in
    none_more 15 (listed found) (listed_few found)
    ∙ ap (λ e. take 15 (listed found ++ link_from (seen c.args.self.now) e c.args.u)) (sym c.in_default.is)
