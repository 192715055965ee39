-- What passed the check of numbers is drawn.
use Rattle.std.proofs.Common.{is_ok, sym, ap}
use Rattle.reader.proofs.Passes.{numbers_drawn}
use Rattle.reader.proofs.read.Goals as goal

pub fill-requires-clause-read : goal.fill-requires-clause-read
fill-requires-clause-read c = numbers_drawn 1 _ _ (ap is_ok (sym c.in_ok-pass-2.ensures))
