-- What a guard means: how many values wait, and how many there can be. What its operations answer and leave.
use Rattle.std.specs.Prelude.{ℕ, ◌+◌, ◌-◌, Bool, cond, ◌||◌, List, [], ◌∷◌, Ok, Err, Result, ◌==◌, nat_le, nat_lt}
use Rattle.records.specs.declared.fault.Fault.{Fault}
use Rattle.records.specs.declared.fault.Layer.TheVariants.{Guard}
use Rattle.records.specs.Faults.{fault}
use Rattle.records.specs.declared.refusal.Refusal.TheVariants as refusal

pub record Level : Type 0 where
  pub count : ℕ
  pub size : ℕ

abbrev pub level : ℕ → ℕ → Level
level c s = record { count = c; size = s }

abbrev pub level_values : Level → List ℕ
level_values l = l.count ∷ l.size ∷ []

-- at least one value waits
abbrev pub waiting : Level → Bool
waiting l = nat_lt 0 l.count

-- as many values wait as there can be
abbrev pub full : Level → Bool
full l = nat_le l.size l.count

-- one value less
abbrev pub taken : Level → Level
taken l = level (l.count - 1) l.size

-- one value more, unless it is full
abbrev pub sent : Level → Level
sent l = cond (full l) l (level (l.count + 1) l.size)

abbrev pub take_answer : Level → Result Unit Fault
take_answer l = cond (waiting l) (Ok tt) (Err (fault refusal.Empty Guard 0))

abbrev pub send_answer : Level → Result Unit Fault
send_answer l = cond (full l) (Err (fault refusal.Full Guard 0)) (Ok tt)

-- no kind with this largest size can keep this count and size
abbrev pub unfit : ℕ → ℕ → ℕ → Bool
unfit largest count size = size == 0 || (nat_lt size count || nat_lt largest size)

abbrev pub fresh_answer : ℕ → ℕ → ℕ → Result Level Fault
fresh_answer largest count size = cond (unfit largest count size) (Err (fault refusal.UnfitLevel Guard 0)) (Ok (level count size))

-- an answer that holds a guard, told by what the guard means
abbrev pub meant : {G : Type 0} → (G → Level) → Result G Fault → Result Level Fault
meant means (Ok g) = Ok (means g)
meant means (Err f) = Err f
