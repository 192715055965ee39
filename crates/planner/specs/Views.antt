-- What the code's records hold, in the words of the definitions.
use Rattle.std.specs.Prelude.{List}
use Rattle.records.specs.declared.tables.Link.{Link}
use Rattle.planning.specs.Backs.{Ground}
use Rattle.planner.specs.declared.back_links.BackLinks.{BackLinks}
use Rattle.planner.specs.declared.ground.Ground as code

abbrev pub seen : code.Ground → Ground
seen g = record { actors = g.actors.now; delays = g.delays.cells.now; joined = g.joined.cells.now }

-- the back links that are found
abbrev pub listed : BackLinks → List Link
listed b = b.links.items
