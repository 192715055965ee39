use Rattle.std.proofs.Common.{[], ◌∷◌, rules}
use Rattle.planner.specs.Views.{listed}
use Rattle.planner.proofs.Found.{full}
use Rattle.planner.proofs.back_links.BackLinks.push.Goals as goal

pub returns-else-not-is_full : goal.returns-else-not-is_full
returns-else-not-is_full c =
    full 15 (listed c.args.self.now) (c.args.link ∷ []) (search rules)
