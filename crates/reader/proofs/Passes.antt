-- What one pass over a text's lines says of another.
use Rattle.std.proofs.Common.{◌≡◌, ℕ, ◌+◌, true, List, [], ◌∷◌, is_ok, Ok, Err, refl}
use Rattle.records.specs.Faults.{then}
use Rattle.reader.specs.Words.{line_of}
use Rattle.reader.specs.Reading.{over_lines, entry_of, numbers, numbers_step, add_step, Drawing, with_entry}

-- where every word is a number, every line writes its record
pub numbers_drawn : (n : ℕ) (d : Drawing) (ls : List (List ℕ))
    → is_ok (over_lines numbers_step n numbers ls) ≡ true → is_ok (over_lines add_step n d ls) ≡ true
unfolding add_step
numbers_drawn n d [] h = refl
numbers_drawn n d (l ∷ ls) h =
    elim (line_of n l)
    as (λ r. is_ok (then r (λ p. then (numbers_step n p numbers) (λ t. over_lines numbers_step (n + 1) t ls))) ≡ true
    → is_ok (then r (λ p. then (add_step n p d) (λ t. over_lines add_step (n + 1) t ls))) ≡ true) [
      | Ok p ↦
          elim (entry_of p)
          as (λ r. is_ok (then (then r (λ _. Ok numbers)) (λ t. over_lines numbers_step (n + 1) t ls)) ≡ true
          → is_ok (then (then r (λ e. Ok (with_entry d e))) (λ t. over_lines add_step (n + 1) t ls)) ≡ true)
          [ Ok e ↦ numbers_drawn (n + 1) (with_entry d e) ls | Err x ↦ λ k. k ]
      | Err x ↦ λ k. k
    ]
    h
