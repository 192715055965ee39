-- What the links of a drawing cost before planning, in the words of the subject.
use Rattle.std.specs.Prelude.{◌≡◌, ℕ, ◌+◌, List, [], ◌∷◌}
use Rattle.records.specs.declared.tables.Actor.{Actor}
use Rattle.records.specs.declared.tables.Edge.{Edge}
use Rattle.records.specs.Tables.{processor_of}
use Rattle.meaning.specs.Components.{Group}

-- the link joins two actors of one processor
abbrev pub Local : List Actor → Edge → Type 0
Local actors e = processor_of actors e.sender ≡ processor_of actors e.receiver

-- a local link costs nothing, one within a group 2, one between two groups 4
pub record LinkCosts (actors : List Actor) (es : List Edge) (e : Edge) (c : ℕ) : Type 0 where
  pub local : Local actors e → c ≡ 0
  pub within : (Local actors e → ⊥) → Group es e.sender e.receiver → c ≡ 2
  pub between : (Local actors e → ⊥) → (Group es e.sender e.receiver → ⊥) → c ≡ 4

-- c is what the links cost together, groups being those of es
abbrev pub Costs : List Actor → List Edge → List Edge → ℕ → Type 0
Costs actors es [] c = c ≡ 0
Costs actors es (l ∷ ls) c = (a : ℕ) × (b : ℕ) × LinkCosts actors es l a × Costs actors es ls b × (c ≡ a + b)
