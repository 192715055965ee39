use Rattle.std.proofs.Common.{◌≡◌, ℕ, ◌+◌, ◌<◌, ◌≤◌, ◌⊎◌, get_or}
use Rattle.paths.proofs.closure.relax_row.Given as goal

abbrev pub invariant-loop-j : goal.invariant-loop-j
invariant-loop-j g l =
    let o = g.T.Algebra.ops in
    ((q : ℕ) → q < l.j → get_or l.cells (l.row + q) o.none ≡ o.choose (get_or l.initial.cells (l.row + q) o.none) (o.follow (get_or l.initial.cells (l.row + l.k) o.none) (get_or l.initial.cells (l.via + q) o.none)))
    × ((p : ℕ) → (p < l.row) ⊎ (l.row + l.j ≤ p) → get_or l.cells p o.none ≡ get_or l.initial.cells p o.none)
