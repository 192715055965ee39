-- Lists whose elements are changed by their number.
use Rattle.std.proofs.Common.{◌≡◌, ℕ, zero, suc, ◌+◌, ◌<◌, List, [], ◌∷◌, length, get_or, refl, ap, ◌∙◌, arith}
use Rattle.planning.specs.Marks.{numbered}

pub length_numbered : {X : Type 0} (f : ℕ → X → X) (k : ℕ) (xs : List X) → length (numbered f k xs) ≡ length xs
length_numbered f k [] = refl
length_numbered f k (x ∷ xs) = ap suc (length_numbered f (k + 1) xs)

pub numbered_at : {X : Type 0} (f : ℕ → X → X) (k : ℕ) (xs : List X) (d : X) (i : ℕ) → i < length xs → get_or (numbered f k xs) i d ≡ f (k + i) (get_or xs i d)
numbered_at f k [] d i h = absurd (omega arith)
numbered_at f k (x ∷ xs) d zero h = ap (λ j. f j x) (let e : k ≡ k + 0 = omega arith in e)
numbered_at f k (x ∷ xs) d (suc i) h = numbered_at f (k + 1) xs d i (omega arith) ∙ ap (λ j. f j (get_or xs i d)) (let e : k + 1 + i ≡ k + suc i = omega arith in e)
