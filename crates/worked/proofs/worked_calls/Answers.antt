use Rattle.worked.proofs.Table.{all_hold}
use Rattle.worked.proofs.worked_calls.Goals as goal

pub returns-clause-hold : goal.returns-clause-hold
returns-clause-hold c = all_hold
