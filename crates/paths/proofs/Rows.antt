-- Where the rows of a table lie.
use Rattle.std.proofs.Common.{◌≡◌, ℕ, ◌+◌, ◌*◌, ◌<◌, ◌≤◌, ◌⊎◌, ap, ◌∙◌, inl, inr, ⊎_elim, add-mul, one-mul, arith}
use Rattle.std.proofs.lemmas.Nat.{mul-le}
use Rattle.std.proofs.lemmas.Bool.{cases_lt, cases_order}

pub row_next : (i n : ℕ) → (i + 1) * n ≡ i * n + n
row_next i n = add-mul i 1 n ∙ ap (λ (x : ℕ). i * n + x) (one-mul n)

-- a row above another ends before it
pub row_before : (i k n : ℕ) → i < k → i * n + n ≤ k * n
row_before i k n h =
    let below : i + 1 ≤ k = omega arith in
    omega (arith, row_next i n, mul-le (i + 1) n k n below (omega arith))

pub rows_apart : (i k n : ℕ) → (i * n ≡ k * n) ⊎ ((i * n + n ≤ k * n) ⊎ (k * n + n ≤ i * n))
rows_apart i k n =
    ⊎_elim (λ (e : i ≡ k). inl (ap (λ (x : ℕ). x * n) e))
    (λ (o : (i < k) ⊎ (k < i)). inr (⊎_elim (λ (h : i < k). inl (row_before i k n h)) (λ (h : k < i). inr (row_before k i n h)) o))
    (cases_order i k)

-- a table that has a place has a row
pub some_row : (i n : ℕ) → i < n * n → 0 < n
some_row i n h =
    ⊎_elim (λ (p : 0 < n). p) (λ (p : n ≤ 0). let e : n ≡ 0 = omega arith in omega (arith, ap (λ (x : ℕ). x * n) e)) (cases_lt 0 n)
