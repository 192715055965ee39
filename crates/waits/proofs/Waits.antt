-- What a path makes wait, and what a closed path of delay 0 blocks.
use Rattle.std.proofs.Common.{◌≡◌, ℕ, suc, ◌≤◌, List, [], ◌∷◌, take, refl, arith}
use Rattle.records.specs.declared.tables.Edge.{Edge}
use Rattle.records.specs.Tables.{edge}
use Rattle.waits.specs.Events.{Event, start, finish, starts, finishes, Lawful, ObeysAll, Enforces, Path, last, step}
use Rattle.waits.proofs.Prefixes.{ObeysNow, Throughout, lawful_counts, obeys_counts, counts_obeys}

path_counts : {es : List Edge} (xs : List Event) → Lawful xs → ObeysAll xs es → {u v d : ℕ} → Path es u v d → Throughout (ObeysNow (edge u v d)) xs
path_counts xs l o (last {u} {v} {d} h) k = obeys_counts xs (edge u v d) (o (edge u v d) h) k
path_counts xs l o (step {u} {w} d h p) k =
    omega (arith, lawful_counts xs l w k, obeys_counts xs (edge u w d) (o (edge u w d) h) k, path_counts xs l o p k)

-- edges that have a path from u to v enforce a wait of v for u, of the path's total delay or more
pub waits_along_path : {es : List Edge} {u v d : ℕ} → Path es u v d → (m : ℕ) → d ≤ m → Enforces es (edge u v m)
waits_along_path {u = u} {v} p m h xs l o = counts_obeys xs (edge u v m) (λ k. omega (arith, path_counts xs l o p k))

silent : (u : ℕ) (xs : List Event) → ((k : ℕ) → starts u (take k xs) ≡ finishes u (take k xs)) → (starts u xs ≡ 0) × (finishes u xs ≡ 0)
silent u [] h = (refl, refl)
silent u (start b ∷ xs) h = let i = silent u xs (λ k. omega (arith, h 1, h (suc k))) in omega (arith, h 1)
silent u (finish b ∷ xs) h = let i = silent u xs (λ k. omega (arith, h 1, h (suc k))) in omega (arith, h 1)

-- an actor on a closed path of delay 0 never starts and never finishes
pub cycle_blocks : {es : List Edge} {u : ℕ} → Path es u u 0 → (xs : List Event) → Lawful xs → ObeysAll xs es
    → (starts u xs ≡ 0) × (finishes u xs ≡ 0)
cycle_blocks {u = u} p xs l o = silent u xs (λ k. omega (arith, lawful_counts xs l u k, path_counts xs l o p k))
