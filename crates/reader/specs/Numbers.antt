-- What number a word writes.
use Rattle.std.specs.Prelude.{ℕ, ◌+◌, ◌-◌, ◌*◌, Bool, cond, ◌&&◌, ◌||◌, List, [], ◌∷◌, length, Some, None, Option, Result, ◌==◌, nat_lt, slice_index}
use Rattle.std.specs.Char.{is_ascii_digit}
use Rattle.std.specs.Option.{ok_or}
use Rattle.records.specs.Faults.{fault}
use Rattle.records.specs.declared.fault.Fault.{Fault}
use Rattle.records.specs.declared.fault.Layer.TheVariants.{Text}
use Rattle.records.specs.declared.refusal.Refusal.TheVariants as refusal
use Rattle.reader.specs.Words.{Part}

-- the digits after the number so far
abbrev pub digits_from : ℕ → List ℕ → Option ℕ
digits_from so_far [] = Some so_far
digits_from so_far (b ∷ bs) = cond (is_ascii_digit b) (digits_from (so_far * 10 + (b - 48)) bs) None

-- no digit at all, more than seven, or a zero before others
abbrev pub ill_sized : List ℕ → Bool
ill_sized bs = length bs == 0 || (nat_lt 7 (length bs) || (nat_lt 1 (length bs) && slice_index bs 0 == 48))

-- the number that a word writes, if it writes one
unfoldable pub written_number : List ℕ → Option ℕ
written_number bs = cond (ill_sized bs) None (digits_from 0 bs)

abbrev pub no_number : ℕ → Fault
no_number n = fault refusal.NoNumber Text n

unfoldable pub number_of : Part → Result ℕ Fault
number_of w = ok_or (written_number w.bytes) (no_number w.line)
