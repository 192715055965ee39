-- A search for the first element that is refused.
use Rattle.std.proofs.Common.{◌≡◌, ℕ, zero, suc, ◌+◌, Bool, true, false, cond, List, [], ◌∷◌, Some, None, Option, Ok, Err, Result, sym, refl, ap, ◌∙◌}
use Rattle.std.specs.List.{position, position_from, find, range_with_len}
use Rattle.std.specs.Option.{option_map}
use Rattle.std.proofs.lemmas.Iterator.Adapters.{position_from-zero}
use Rattle.records.specs.declared.fault.Fault.{Fault}
use Rattle.records.specs.declared.fault.Layer.{Layer}
use Rattle.records.specs.Faults.{fault, refused_at}
use Rattle.records.specs.declared.refusal.Refusal.{Refusal}
use Rattle.planning.specs.Checks.{refuse_first}
use Rattle.planner.proofs.Counting.{same_number}

module _ (why : Refusal) (layer : Layer) where
  refuse_choice : (b : Bool) (k : ℕ) (o : Option ℕ) → cond b (Err (fault why layer k)) (refused_at why layer o) ≡ refused_at why layer (cond b (Some k) o)
  refuse_choice true k o = refl
  refuse_choice false k o = refl

  module _ {X : Type 0} (bad : X → Bool) where
    refuse_from : (k : ℕ) (xs : List X) → refuse_first bad why layer k xs ≡ refused_at why layer (position_from bad k xs)
    refuse_from k [] = refl
    refuse_from k (x ∷ xs) =
        ap (cond (bad x) (Err (fault why layer k))) (refuse_from (k + 1) xs) ∙ refuse_choice (bad x) k (position_from bad (k + 1) xs)

    pub refuse_position : (xs : List X) (r : Option ℕ) → r ≡ position bad xs → refuse_first bad why layer 0 xs ≡ refused_at why layer r
    refuse_position xs r found = refuse_from 0 xs ∙ ap (refused_at why layer) (sym (found ∙ position_from-zero bad xs))

  -- of the numbers below another
  module _ (bad : ℕ → Bool) where
    found_from : (a k : ℕ) → find bad (range_with_len a k) ≡ position_from bad a (range_with_len a k)
    found_from a zero = refl
    found_from a (suc k) = ap (cond (bad a) (Some a)) (found_from (a + 1) k)

    pub refuse_found : (n : ℕ) (r : Option ℕ) → option_map (λ x. x) r ≡ find bad (range_with_len 0 n) → refuse_first bad why layer 0 (range_with_len 0 n) ≡ refused_at why layer r
    refuse_found n r found =
        refuse_from bad 0 (range_with_len 0 n) ∙ ap (refused_at why layer) (sym (sym (same_number r) ∙ found ∙ found_from 0 n))
