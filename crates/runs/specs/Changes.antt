-- A row of guards changed link by link.
use Rattle.std.specs.Prelude.{◌≡◌, List, [], ◌∷◌}
use Rattle.records.specs.declared.tables.Link.{Link}

-- each guard became one that its link allows, and guards past the links stand
abbrev pub Changed : {G : Type 0} → (Link → G → G → Type 0) → List Link → List G → List G → Type 0
Changed becomes [] before after = after ≡ before
Changed becomes (l ∷ ls) [] after = after ≡ []
Changed becomes (l ∷ ls) (x ∷ xs) [] = ⊥
Changed becomes (l ∷ ls) (x ∷ xs) (y ∷ ys) = becomes l x y × Changed becomes ls xs ys
