-- The closure of a table of n rows: round by round, each path may pass one vertex more.
use Rattle.std.specs.Prelude.{ℕ, zero, suc, ◌+◌, ◌*◌, ◌/◌, ◌%◌, cond, List, ◌++◌, map, length, drop, Ok, Err, Result, nat_le, slice_index_or}
use Rattle.std.specs.List.{range_with_len}
use Rattle.records.specs.declared.fault.Fault.{Fault}
use Rattle.records.specs.declared.fault.Layer.TheVariants.{Table}
use Rattle.records.specs.Faults.{fault}
use Rattle.records.specs.declared.refusal.Refusal.TheVariants as refusal
use Rattle.paths.specs.Algebra.{Ops}

-- the entry at row u and column v
abbrev pub entry : {M : Type 0} → Ops M → List M → ℕ → ℕ → ℕ → M
entry o cells n u v = slice_index_or cells (u * n + v) o.none

-- from u to v straight, or by way of k
abbrev pub through : {M : Type 0} → Ops M → ℕ → ℕ → List M → ℕ → ℕ → M
through o n k cells u v = o.choose (entry o cells n u v) (o.follow (entry o cells n u k) (entry o cells n k v))

-- each entry once more, where paths may now pass k too; what stands after the n rows stays
unfoldable pub round : {M : Type 0} → Ops M → ℕ → ℕ → List M → List M
round o n k cells = map (λ p. through o n k cells (p / n) (p % n)) (range_with_len 0 (n * n)) ++ drop (n * n) cells

-- the rounds of the vertices below k
unfoldable pub rounds : {M : Type 0} → Ops M → ℕ → ℕ → List M → List M
rounds o n zero cells = cells
rounds o n (suc k) cells = round o n k (rounds o n k cells)

abbrev pub closed : {M : Type 0} → Ops M → ℕ → List M → List M
closed o n cells = rounds o n n cells

-- what the call answers for a table of this length
abbrev pub close_answer : ℕ → ℕ → Result Unit Fault
close_answer n len = cond (nat_le (n * n) len) (Ok tt) (Err (fault refusal.ShortWorkspace Table 0))

-- what the table holds after the call
abbrev pub close_table : {M : Type 0} → Ops M → ℕ → List M → List M
close_table o n cells = cond (nat_le (n * n) (length cells)) (closed o n cells) cells
