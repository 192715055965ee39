-- Paths with few edges.
use Rattle.std.specs.Prelude.{◌≡◌, ℕ, zero, suc, ◌+◌, ◌-◌, ◌⊎◌, List}
use Rattle.records.specs.declared.tables.Edge.{Edge}
use Rattle.records.specs.Tables.{edge}
use Rattle.waits.specs.Events.{In}

-- an edge of es from u, and then what P allows, with their total delay
abbrev pub Then : List Edge → (ℕ → ℕ → Type 0) → ℕ → ℕ → Type 0
Then es P u t = (w : ℕ) × (d : ℕ) × (r : ℕ) × In (edge u w d) es × P w r × (d + r ≡ t)

-- no edge, from u to v
abbrev pub Stop : ℕ → ℕ → ℕ → Type 0
Stop u v t = (u ≡ v) × (t ≡ 0)

-- at most k edges, or none, from u to v
abbrev pub Walk : List Edge → ℕ → ℕ → ℕ → ℕ → Type 0
Walk es zero u v t = Stop u v t
Walk es (suc k) u v t = Stop u v t ⊎ Then es (λ w r. Walk es k w v r) u t

-- one to n edges from u to v
abbrev pub Short : List Edge → ℕ → ℕ → ℕ → ℕ → Type 0
Short es n u v t = Then es (λ w r. Walk es (n - 1) w v r) u t
