use Rattle.std.proofs.Common.{rules}
use Rattle.running.specs.Runs.{first_turn}
use Rattle.runs.proofs.Searches.{made_by}
use Rattle.runs.proofs.turns.first_turns.Goals as goal
use borrow.Author.Tests.{tests}

pub returns : goal.returns
returns c = made_by _ _ (first_turn c.args.actors.now) (λ i y q k. search (rules, tests)) c.from_fn.result 16 c.from_fn.ensures.items 0
