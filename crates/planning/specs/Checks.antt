-- What is refused before anything is planned.
use Rattle.std.specs.Prelude.{ℕ, ◌+◌, ◌*◌, Bool, cond, ◌||◌, List, [], ◌∷◌, length, take, Ok, Err, Result, ◌==◌, nat_le, nat_lt}
use Rattle.std.specs.List.{range_with_len}
use Rattle.records.specs.declared.fault.Fault.{Fault}
use Rattle.records.specs.declared.fault.Layer.{Layer}
use Rattle.records.specs.declared.fault.Layer.TheVariants.{Table, Plan}
use Rattle.records.specs.declared.tables.Actor.{Actor}
use Rattle.records.specs.declared.tables.Link.{Link}
use Rattle.records.specs.Faults.{fault, then}
use Rattle.records.specs.declared.refusal.Refusal.TheVariants as refusal
use Rattle.records.specs.declared.refusal.Refusal.{Refusal}
use Rattle.paths.specs.Closure.{entry}
use Rattle.paths.specs.Models.{reach_ops}
use Rattle.paths.specs.declared.reach.Reach.{Reach}

-- a refusal unless the test fails
abbrev pub refuse_if : Bool → Fault → Result Unit Fault
refuse_if bad f = cond bad (Err f) (Ok tt)

-- the first element that is bad, counted from k, is refused with its place
abbrev pub refuse_first : {X : Type 0} → (X → Bool) → Refusal → Layer → ℕ → List X → Result Unit Fault
refuse_first bad why layer k [] = Ok tt
refuse_first bad why layer k (x ∷ xs) =
    cond (bad x) (Err (fault why layer k)) (refuse_first bad why layer (k + 1) xs)

-- counts, lengths and lead
abbrev pub check_counts : ℕ → ℕ → ℕ → ℕ → ℕ → ℕ → Result Unit Fault
check_counts n m links-length lead delays-length reach-length =
    then (refuse_if (n == 0 || nat_lt 64 n) (fault refusal.ActorCount Table 0)) (λ _.
    then (refuse_if (nat_lt 256 m || nat_lt links-length (m + 15)) (fault refusal.LinkCount Table 0)) (λ _.
    then (refuse_if (lead == 0 || nat_lt 1000 lead) (fault refusal.BadLead Table 0)) (λ _.
    refuse_if (nat_lt delays-length (n * n) || nat_lt reach-length (n * n)) (fault refusal.ShortWorkspace Table 0))))

abbrev pub bad_actor : Actor → Bool
bad_actor a = nat_lt 15 a.processor || (a.estimate == 0 || nat_lt 1000000 a.estimate)

abbrev pub bad_link : ℕ → Link → Bool
bad_link n l = nat_le n l.sender || (nat_le n l.receiver || nat_lt 1000 l.delay)

-- all that is refused about counts, tables and numbers
unfoldable pub check_tables : List Actor → List Link → ℕ → ℕ → ℕ → ℕ → Result Unit Fault
check_tables actors links m lead delays-length reach-length =
    then (check_counts (length actors) m (length links) lead delays-length reach-length) (λ _.
    then (refuse_first bad_actor refusal.BadActor Table 0 actors) (λ _.
    refuse_first (bad_link (length actors)) refusal.BadLink Table 0 (take m links)))

-- a delay-free path leads from u to itself
abbrev pub on_cycle : ℕ → List Reach → ℕ → Bool
on_cycle n free u = (entry reach_ops free n u u).yes

-- the lowest actor on a delay-free cycle
unfoldable pub check_cycles : ℕ → List Reach → Result Unit Fault
check_cycles n free = refuse_first (on_cycle n free) refusal.Deadlock Plan 0 (range_with_len 0 n)
