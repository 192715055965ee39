-- Walks over a table of single edges, and the choice over all of them.
use Rattle.std.specs.Prelude.{◌≡◌, ℕ, ◌<◌, List, [], ◌∷◌}
use Rattle.paths.specs.Algebra.{Ops}

-- what the walk from u through xs to v comes to: one edge or more
abbrev pub walk_value : {M : Type 0} → Ops M → (ℕ → ℕ → M) → ℕ → List ℕ → ℕ → M
walk_value o edge_value u [] v = edge_value u v
walk_value o edge_value u (x ∷ xs) v = o.follow (edge_value u x) (walk_value o edge_value x xs v)

-- each vertex of xs is below n
abbrev pub Below : ℕ → List ℕ → Type 0
Below n [] = Unit {0}
Below n (x ∷ xs) = (x < n) × Below n xs

-- w is the choice over all walks from u to v that pass vertices below n: one of them comes to it, and it wins over each
pub record Chosen {M : Type 0} (o : Ops M) (edge_value : ℕ → ℕ → M) (n u v : ℕ) (w : M) : Type 0 where
  pub attained : (xs : List ℕ) × Below n xs × (walk_value o edge_value u xs v ≡ w)
  pub wins : (xs : List ℕ) → Below n xs → o.choose w (walk_value o edge_value u xs v) ≡ w
