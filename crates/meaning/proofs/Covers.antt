-- Edges that have a path for a given edge, of at most its delay.
use Rattle.std.proofs.Common.{ℕ, ◌+◌, ◌≤◌, List, arith}
use Rattle.records.specs.declared.tables.Edge.{Edge}
use Rattle.records.specs.Tables.{edge}
use Rattle.waits.specs.Events.{In, Path, last}
use Rattle.waits.proofs.Paths.{path_joined, path_over_more}

-- some path over es leads from the sender of e to its receiver with at most its delay
abbrev pub Covers : List Edge → Edge → Type 0
Covers es e = (t : ℕ) × (t ≤ e.delay) × Path es e.sender e.receiver t

pub covers_more : (es fs : List Edge) (e : Edge) → ((f : Edge) → In f es → In f fs) → Covers es e → Covers fs e
covers_more es fs e more (t, l, p) = (t, l, path_over_more more p)

pub covers_own : (es : List Edge) (e : Edge) → In e es → Covers es e
covers_own es e h = (e.delay, omega arith, last h)

pub covers_then : (es : List Edge) (u w v c d : ℕ) → Covers es (edge u w c) → Covers es (edge w v d) → Covers es (edge u v (c + d))
covers_then es u w v c d (s, l, p) (t, m, q) = (s + t, omega arith, path_joined p q)
