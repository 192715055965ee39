-- How many starts and finishes a list has, and one event more.
use Rattle.std.proofs.Common.{◌≡◌, ℕ, ◌+◌, cond, eqb, ◌⊎◌, List, [], ◌∷◌, ◌++◌, arith}
use Rattle.std.proofs.lemmas.Bool.Decides.{eqb_tells}
use Rattle.waits.specs.Events.{Event, start, finish, starts, finishes}

pub starts-++ : (a : ℕ) (xs ys : List Event) → starts a (xs ++ ys) ≡ starts a xs + starts a ys
starts-++ a [] ys = omega arith
starts-++ a (start b ∷ xs) ys = omega (arith, starts-++ a xs ys)
starts-++ a (finish b ∷ xs) ys = starts-++ a xs ys

pub finishes-++ : (a : ℕ) (xs ys : List Event) → finishes a (xs ++ ys) ≡ finishes a xs + finishes a ys
finishes-++ a [] ys = omega arith
finishes-++ a (start b ∷ xs) ys = finishes-++ a xs ys
finishes-++ a (finish b ∷ xs) ys = omega (arith, finishes-++ a xs ys)

-- what an event of actor b adds to the count of actor a
pub once : ℕ → ℕ → ℕ
once a b = cond (eqb a b) 1 0

pub once_tells : (a b : ℕ) → ((once a b ≡ 1) × (a ≡ b)) ⊎ ((once a b ≡ 0) × (a ≡ b → ⊥))
unfolding once
once_tells a b = grind (arith, eqb_tells)

pub starts_start : (a b : ℕ) (xs : List Event) → starts a (xs ++ (start b ∷ [])) ≡ starts a xs + once a b
unfolding once
starts_start a b xs = omega (arith, starts-++ a xs (start b ∷ []))

pub finishes_start : (a b : ℕ) (xs : List Event) → finishes a (xs ++ (start b ∷ [])) ≡ finishes a xs
finishes_start a b xs = omega (arith, finishes-++ a xs (start b ∷ []))

pub starts_finish : (a b : ℕ) (xs : List Event) → starts a (xs ++ (finish b ∷ [])) ≡ starts a xs
starts_finish a b xs = omega (arith, starts-++ a xs (finish b ∷ []))

pub finishes_finish : (a b : ℕ) (xs : List Event) → finishes a (xs ++ (finish b ∷ [])) ≡ finishes a xs + once a b
unfolding once
finishes_finish a b xs = omega (arith, finishes-++ a xs (finish b ∷ []))
