-- Whether bytes fit an output, and what it holds as they are written.
use Rattle.std.proofs.Common.{◌≡◌, ℕ, ◌+◌, ◌≤◌, leb, List, ◌++◌, length, drop, Ok, Result, sym, refl, ap, ◌∙◌, zero-add, arith}
use lib.Seq.{paste}
use Rattle.std.proofs.lemmas.List.Edits.{paste_all, paste-paste}
use Rattle.std.proofs.lemmas.List.{length-append}
use Rattle.std.proofs.lemmas.Bool.{cond-true, le-leb}
use Rattle.records.specs.declared.fault.Fault.{Fault}
use Rattle.planning.specs.Planning.{over}
use Rattle.listing.specs.Listing.{written, fit_answer, fit_output}

-- the length of three parts, the middle one last
pub three_lengths : (first middle last : List ℕ) → length (first ++ middle ++ last) ≡ length first + length last + length middle
three_lengths first middle last = omega (arith, length-append (first ++ middle) last, length-append first middle)

-- one write after another
pub written_more : (out : List ℕ) (at : ℕ) (s t : List ℕ) → at ≤ length out → written (written out at s) (at + length s) t ≡ written out at (s ++ t)
written_more out at s t h =
    paste-paste out at s t (length s) (length t) refl refl h ∙ ap (λ n. paste out at (s ++ t) n) (sym (length-append s t))

-- bytes that fit are written at the start of the output
module _ (bytes out : List ℕ) (fits : length bytes ≤ length out) where
  pub answers : (end : ℕ) → end ≡ length bytes → ◌≡◌ {A = Result ℕ Fault} (Ok end) (fit_answer bytes out)
  answers end ends =
      let answer : ℕ → Result ℕ Fault = λ n. Ok n in
      ap answer ends ∙ sym (cond-true (leb (length bytes) (length out)) _ _ (le-leb (length bytes) (length out) fits))

  pub leaves : written out 0 bytes ≡ fit_output bytes out
  leaves =
      paste_all out 0 bytes (length bytes) refl
      ∙ ap (λ n. bytes ++ drop n out) (zero-add (length bytes))
      ∙ sym (cond-true (leb (length bytes) (length out)) (over bytes out) out (le-leb (length bytes) (length out) fits))
