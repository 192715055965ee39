-- Which links are left out where a table is filled.
use Rattle.std.specs.Prelude.{ℕ, Bool, false, ◌&&◌, List, Some, None, Option, nat_le}
use Rattle.records.specs.declared.tables.Edge.{Edge}
use Rattle.planning.specs.Edges.{twins, without}

-- the edge f with number j is left out: it is a twin of an edge, and has its number or a higher one
abbrev pub skips : Option (ℕ × Edge) → ℕ → Edge → Bool
skips None j f = false
skips (Some s) j f = nat_le s.0 j && twins s.1 f

-- the edges from number j on that are not left out
abbrev pub but : Option (ℕ × Edge) → ℕ → List Edge → List Edge
but None j es = es
but (Some s) j es = without s.0 s.1 j es
