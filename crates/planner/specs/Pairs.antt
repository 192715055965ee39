-- How many cells a table over the pairs of actors has.
use Rattle.std.specs.Prelude.{ℕ, ◌*◌, List, length}
use Rattle.records.specs.declared.tables.Actor.{Actor}

abbrev pub pair_count : List Actor → ℕ
pair_count actors = length actors * length actors
