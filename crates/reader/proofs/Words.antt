-- The words of a text, one by one, and the line that they make.
use Rattle.std.proofs.Common.{◌≡◌, ℕ, ◌+◌, ◌-◌, ◌<◌, ◌≤◌, ◌==◌, Bool, true, false, cond, eqb, ltb, List, [], ◌∷◌, length, take, drop, Some, None, Option, MatchOption, refl, ap, ◌∙◌, ⊎_elim, arith}
use Rattle.std.specs.List.{slice_split, onto_first, position_or_len}
use Rattle.std.proofs.lemmas.List.{take_rest}
use Rattle.std.proofs.lemmas.List.Splits.{slice_split_first, slice_split_none}
use Rattle.std.proofs.lemmas.List.Sums.{fails_before_first}
use Rattle.std.proofs.lemmas.Bool.{lt-ltb, le-ltb, cond-true, cond-false, cases_lt}
use Rattle.reader.specs.Lines.{onto}
use Rattle.reader.specs.Words.{split}

abbrev pub is_space : ℕ → Bool
is_space b = b == 32

onto_is : (b : ℕ) (parts : List (List ℕ)) → onto b parts ≡ onto_first b parts
onto_is b [] = refl
onto_is b (p ∷ ps) = refl

split_is : (xs : List ℕ) → split xs ≡ slice_split is_space xs
split_is [] = refl
split_is (b ∷ bs) =
    elim (eqb b 32)
    as (λ t. cond t ([] ∷ split bs) (onto b (split bs)) ≡ cond t ([] ∷ slice_split is_space bs) (onto_first b (slice_split is_space bs)))
    [ true ↦ ap (λ (ps : List (List ℕ)). [] ∷ ps) (split_is bs) | false ↦ ap (onto b) (split_is bs) ∙ onto_is b (slice_split is_space bs) ]

-- where `position` finds the first space, or none
pub first_space : (xs : List ℕ) (r : Option ℕ)
    → r ≡ cond (ltb (position_or_len is_space xs) (length xs)) (Some (position_or_len is_space xs)) None
    → MatchOption r (split xs ≡ xs ∷ []) (λ i. split xs ≡ take i xs ∷ split (take (length xs - (i + 1)) (drop (i + 1) xs)))
first_space xs r at =
    let n : ℕ = position_or_len is_space xs in
    ⊎_elim
    (λ (h : n < length xs).
    rw (at ∙ cond-true _ _ _ (lt-ltb _ _ h), take_rest xs (n + 1), split_is (drop (n + 1) xs))
    (split_is xs ∙ slice_split_first is_space xs 0 h))
    (λ (h : length xs ≤ n).
    rw (at ∙ cond-false _ _ _ (le-ltb _ _ h))
    (split_is xs ∙ slice_split_none is_space xs (λ k d l. fails_before_first is_space xs k d (omega arith))))
    (cases_lt n (length xs))
