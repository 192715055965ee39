-- A circle of size + 1 places, and two pointers on it.
use Rattle.std.specs.Prelude.{ℕ, ◌+◌, ◌-◌, ◌<◌, ◌≤◌, cond, nat_le, nat_lt}
use Rattle.std.proofs.Common.{arith, ⊎_elim}
use Rattle.std.proofs.lemmas.Bool.{cases_lt, cond-true, cond-false, le-leb, lt-leb}

-- the place after this one
abbrev pub turned : ℕ → ℕ → ℕ
turned place size = cond (nat_lt place size) (place + 1) 0

-- how many turns there are from the read place to the write place
abbrev pub between : ℕ → ℕ → ℕ → ℕ
between read write size = cond (nat_le read write) (write - read) ((write + size + 1) - read)

-- no more than there are places but one
pub between_le : (read write size : ℕ) → read ≤ size → write ≤ size → between read write size ≤ size
between_le read write size r w =
    ⊎_elim
    (λ (h : write < read). omega (arith, cond-false _ (write - read) ((write + size + 1) - read) (lt-leb read write h)))
    (λ (h : read ≤ write). omega (arith, cond-true _ (write - read) ((write + size + 1) - read) (le-leb read write h)))
    (cases_lt write read)
