-- The edges of a drawing with its back links.
use Rattle.std.proofs.Common.{ℕ, List, ◌++◌, map}
use Rattle.std.specs.List.{range_with_len}
use Rattle.records.specs.declared.tables.Edge.{Edge}
use Rattle.records.specs.declared.tables.Link.{Link}
use Rattle.records.specs.Tables.{link_edge}
use Rattle.planning.specs.Backs.{Ground, count, backs_among}

-- the back links, of which there may be more than there is room for
abbrev pub all_backs : Ground → ℕ → List Link
all_backs g lead = backs_among g lead (range_with_len 0 (count g))

abbrev pub back_edges : Ground → ℕ → List Edge
back_edges g lead = map link_edge (all_backs g lead)

abbrev pub with_backs : Ground → ℕ → List Edge → List Edge
with_backs g lead es = es ++ back_edges g lead
