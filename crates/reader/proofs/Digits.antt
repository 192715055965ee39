-- One more digit of a number.
use Rattle.std.proofs.Common.{◌≡◌, ℕ, ◌+◌, ◌-◌, ◌*◌, ◌^◌, ◌<◌, ◌≤◌, true, false, List, length, get_or, drop, Some, None, sym, ap, ◌∙◌, pow-suc, add-one, arith}
use native.Mathlib.Nat.{pow-le-pow_right}
use Rattle.std.specs.Char.{is_ascii_digit}
use Rattle.std.proofs.lemmas.List.{at_drop_more, at_drop_all}
use Rattle.std.proofs.lemmas.Bool.{cond-true, cond-false}
use Rattle.std.proofs.lemmas.Bool.Decides.{nat_tests}
use Rattle.reader.specs.Numbers.{digits_from}

pub digit_step : (n d : ℕ) (xs : List ℕ) (i : ℕ) → i < length xs → d ≡ get_or xs i 0 - 48 → is_ascii_digit (get_or xs i 0) ≡ true
    → digits_from n (drop i xs) ≡ digits_from (n * 10 + d) (drop (i + 1) xs)
digit_step n d xs i h q e =
    at_drop_more (digits_from n) xs i 0 h ∙ cond-true _ _ _ e ∙ ap (λ (k : ℕ). digits_from (n * 10 + k) (drop (i + 1) xs)) (sym q)

pub digit_stop : (n : ℕ) (xs : List ℕ) (i : ℕ) → i < length xs → is_ascii_digit (get_or xs i 0) ≡ false
    → digits_from n (drop i xs) ≡ None
digit_stop n xs i h e = at_drop_more (digits_from n) xs i 0 h ∙ cond-false _ _ _ e

pub digit_end : (n : ℕ) (xs : List ℕ) (i : ℕ) → length xs ≤ i → digits_from n (drop i xs) ≡ Some n
digit_end n xs i h = at_drop_all (digits_from n) xs i h

digit_below : (b : ℕ) → is_ascii_digit b ≡ true → b - 48 < 10
digit_below b e = grind (arith, nat_tests)

pub tens_more : (n d b i : ℕ) → n < 10 ^ i → d ≡ b - 48 → is_ascii_digit b ≡ true → n * 10 + d < 10 ^ (i + 1)
tens_more n d b i p q e = rw add-one (omega (arith, pow-suc 10 i, digit_below b e))

pub tens_fit : (n d b i : ℕ) → n < 10 ^ i → d ≡ b - 48 → is_ascii_digit b ≡ true → i < 7 → n * 10 + d < 10000000
tens_fit n d b i p q e h =
    omega (arith, tens_more n d b i p q e, pow-le-pow_right {n = 10} (omega arith) {i = i + 1} {j = 7} (omega arith))
