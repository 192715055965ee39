-- What a round holds at each place, and how the table becomes it row by row.
use Rattle.std.proofs.Common.{◌≡◌, ℕ, ◌+◌, ◌-◌, ◌*◌, ◌/◌, ◌%◌, ◌<◌, ◌≤◌, ◌⊎◌, List, map, length, get_or, drop, sym, ap, ◌∙◌, subst, inl, inr, ⊎_elim, zero-add, add-one, arith}
use Rattle.std.specs.List.{range_with_len}
use Rattle.std.proofs.lemmas.Nat.{mul-le, div-add-mod', div-mul-add, mod-mul-add, div_below, mod_below}
use Rattle.std.proofs.lemmas.List.FromFn.{length-map-range_with_len, get_or-map-range_with_len}
use Rattle.std.proofs.lemmas.List.{ext_get_or, length-append, length-drop, get_or_append_left, get_or-append_right, get_or-drop}
use Rattle.std.proofs.lemmas.Bool.{cases_lt}
use Rattle.paths.specs.Algebra.{Ops, Laws}
use Rattle.paths.specs.Closure.{entry, through, round, rounds}
use Rattle.paths.proofs.Order.{absorbs}
use Rattle.paths.proofs.Rows.{row_next, row_before, some_row}

module _ {M : Type 0} (o : Ops M) (n k : ℕ) (xs : List M) where
  abbrev cell : ℕ → M
  cell p = through o n k xs (p / n) (p % n)

  abbrev front : List M
  front = map cell (range_with_len 0 (n * n))

  round_length : n * n ≤ length xs → length (round o n k xs) ≡ length xs
  unfolding round
  round_length within =
      omega (arith, length-append front (drop (n * n) xs), length-map-range_with_len cell 0 (n * n), length-drop (n * n) xs)

  round_place : (i : ℕ) → i < n * n → get_or (round o n k xs) i o.none ≡ cell i
  unfolding round
  round_place i h =
      let within : i < length front = omega (arith, length-map-range_with_len cell 0 (n * n)) in
      get_or_append_left front (drop (n * n) xs) o.none i within ∙ get_or-map-range_with_len cell 0 (n * n) i i o.none h (zero-add i)

  round_past : (i : ℕ) → n * n ≤ i → get_or (round o n k xs) i o.none ≡ get_or xs i o.none
  unfolding round
  round_past i h =
      let j : n * n + (i - n * n) ≡ i = omega arith in
      get_or-append_right front (drop (n * n) xs) (n * n) i o.none (length-map-range_with_len cell 0 (n * n)) h
      ∙ get_or-drop (n * n) xs (i - n * n) o.none
      ∙ ap (λ (p : ℕ). get_or xs p o.none) j

  pub round_entry : (u v : ℕ) → u < n → v < n → entry o (round o n k xs) n u v ≡ through o n k xs u v
  round_entry u v hu hv =
      round_place (u * n + v) (omega (arith, row_before u n n hu))
      ∙ ap (λ (x : ℕ). through o n k xs x ((u * n + v) % n)) (div-mul-add u n v hv)
      ∙ ap (through o n k xs u) (mod-mul-add u n v hv)

  -- a table with a round's entries is that round
  is_round : (ys : List M) → n * n ≤ length xs → length ys ≡ length xs
      → ((u v : ℕ) → u < n → v < n → entry o ys n u v ≡ through o n k xs u v)
      → ((p : ℕ) → n * n ≤ p → get_or ys p o.none ≡ get_or xs p o.none)
      → ys ≡ round o n k xs
  is_round ys within long known rest =
      ext_get_or o.none ys (round o n k xs) (long ∙ sym (round_length within))
      (λ i _.
      ⊎_elim
      (λ (l : i < n * n).
      let some = some_row i n l in
      ap (λ (p : ℕ). get_or ys p o.none) (sym (div-add-mod' i n))
      ∙ known (i / n) (i % n) (div_below i n n some l) (mod_below i n some)
      ∙ sym (round_place i l))
      (λ (l : n * n ≤ i). rest i l ∙ sym (round_past i l))
      (cases_lt i (n * n)))

-- from xs, the rows before row i of ys have had their turn
abbrev pub RowsDone : {M : Type 0} → Ops M → ℕ → ℕ → List M → ℕ → List M → Type 0
RowsDone o n k xs i ys =
    ((u v : ℕ) → u < i → v < n → entry o ys n u v ≡ through o n k xs u v)
    × ((p : ℕ) → i * n ≤ p → get_or ys p o.none ≡ get_or xs p o.none)

-- row k stands, before and after its own turn
via_row : {M : Type 0} {o : Ops M} (laws : Laws o) (xs ys : List M) (n k i v : ℕ) → v < n
    → RowsDone o n k xs i ys → entry o ys n k v ≡ entry o xs n k v
via_row {o = o} laws xs ys n k i v hv done =
    ⊎_elim
    (λ (h : k < i). done.0 k v h hv ∙ absorbs laws (entry o xs n k v) (entry o xs n k k))
    (λ (h : i ≤ k). done.1 (k * n + v) (omega (arith, mul-le i n k n h (omega arith))))
    (cases_lt k i)

pub rows_more : {M : Type 0} {o : Ops M} (laws : Laws o) (xs ys zs : List M) (n k i : ℕ) → k < n
    → RowsDone o n k xs i ys
    → ((q : ℕ) → q < n → get_or zs (i * n + q) o.none ≡ through o n k ys i q)
    → ((p : ℕ) → (p < i * n) ⊎ (i * n + n ≤ p) → get_or zs p o.none ≡ get_or ys p o.none)
    → RowsDone o n k xs (i + 1) zs
rows_more {o = o} laws xs ys zs n k i hk done row rest = (
  λ u v hu hv.
      ⊎_elim
      (λ (h : u < i). rest (u * n + v) (inl (omega (arith, row_before u i n h))) ∙ done.0 u v h hv)
      (λ (h : i ≤ u).
      let e : i ≡ u = omega arith in
      let a = done.1 (i * n + v) (omega arith) in
      let b = done.1 (i * n + k) (omega arith) in
      let w = via_row laws xs ys n k i v hv done in
      let here : entry o zs n i v ≡ through o n k xs i v = row v hv ∙ cc in
      subst (λ (x : ℕ). entry o zs n x v ≡ through o n k xs x v) e here)
      (cases_lt u i),
  λ p h. rest p (inr (omega (arith, row_next i n))) ∙ done.1 p (omega (arith, row_next i n)),
)

-- once every row has had its turn
pub rows_all : {M : Type 0} (o : Ops M) (xs ys : List M) (n k i : ℕ) → i ≡ n → n * n ≤ length xs → length ys ≡ length xs
    → RowsDone o n k xs i ys → ys ≡ round o n k xs
rows_all o xs ys n k i e within long done =
    is_round o n k xs ys within long (λ u v hu hv. done.0 u v (omega arith) hv)
    (λ p h. done.1 p (omega (arith, ap (λ (x : ℕ). x * n) e)))

pub rounds_more : {M : Type 0} (o : Ops M) (n k : ℕ) (xs : List M) → rounds o n (k + 1) xs ≡ round o n k (rounds o n k xs)
unfolding rounds
rounds_more o n k xs = rw add-one
