use Rattle.std.proofs.Common.{◌≡◌, ◌++◌, take, drop}
use Rattle.planning.specs.Marks.{sized}
use Rattle.planner.proofs.sizes.size_links.Given as goal

abbrev pub invariant-loop-link : goal.invariant-loop-link
invariant-loop-link l = l.link-items ≡ sized l.delays.n l.delays.cells.now (take l.link-index l.initial.link-items) ++ drop l.link-index l.initial.link-items
