-- From every actor an exit group is reached, and every actor is reached from an entry group.
use Rattle.std.proofs.Common.{◌≡◌, ℕ, zero, suc, ◌<◌, Bool, true, not, ◌||◌, List, inl, inr, arith}
use Rattle.std.proofs.lemmas.Bool.{cases_Bool, or_parts, not-false, both_ways}
use Rattle.records.specs.declared.tables.Edge.{Edge}
use Rattle.waits.specs.Counting
use Rattle.planning.specs.Groups.{all_below, reaches, end_group}
use Rattle.planning.specs.declared.End.TheVariants.{Entry as at_entry_lem, Exit as at_exit}
use Rattle.planning.specs.Backs.{Ground, count}
use Rattle.meaning.specs.Components.{Reaches, Entry, Exit}
use Rattle.meaning.proofs.Tallies.{one_fails, count_less}
use Rattle.meaning.proofs.Groups.{reaches_on}
use Rattle.meaning.proofs.Grounds.{Tabled, at_reach, at_end}

-- r says who is ahead of whom: whoever x has ahead, and all that those have ahead
module _ (n : ℕ) (r : ℕ → ℕ → Bool) (goes : (x y z : ℕ) → x < n → y < n → z < n → r x y ≡ true → r y z ≡ true → r x z ≡ true) where
  -- fewer are ahead of w than of u
  fewer_ahead : (u w : ℕ) → u < n → w < n → r u u ≡ true → r u w ≡ true → (r w u ≡ true → ⊥) → Counting.count (r w) n < Counting.count (r u) n
  fewer_ahead u w hu hw self there no-back = count_less (r w) (r u) n (λ x h t. goes u w x hu hw h there t) u hu no-back self

  -- ahead of u there is some x that is ahead of all that are ahead of it
  pub furthest : ((x : ℕ) → x < n → r x x ≡ true) → (m u : ℕ) → u < n → Counting.count (r u) n < m
      → (x : ℕ) × (x < n) × (r u x ≡ true) × (all_below (λ w. not (r x w) || r w x) n ≡ true)
  furthest self zero u hu l = absurd (omega arith)
  furthest self (suc m) u hu l = elim (cases_Bool (all_below (λ w. not (r u w) || r w u) n)) [
    | inl t ↦ (u, hu, self u hu, t)
    | inr f ↦
        let (w, hw, g) = one_fails (λ w. not (r u w) || r w u) n f in
        let both = or_parts (not (r u w)) (r w u) g in
        let there = not-false (r u w) both.0 in
        let (x, hx, way, all) = furthest self m w hw (omega (arith, fewer_ahead u w hu hw (self u hu) there (λ t. both_ways (r w u) both.1 t))) in
        (x, hx, goes u w x hu hw hx there way, all)
  ]

module _ {g : Ground} {es : List Edge} (tabled : Tabled g es) where
  abbrev there : ℕ → ℕ → Bool
  there u v = reaches (count g) g.delays u v

  goes_there : (x y z : ℕ) → x < count g → y < count g → z < count g → there x y ≡ true → there y z ≡ true → there x z ≡ true
  goes_there x y z hx hy hz p q = (at_reach tabled x z hx hz).1 (reaches_on ((at_reach tabled x y hx hy).0 p) ((at_reach tabled y z hy hz).0 q))

  here : (x : ℕ) → x < count g → there x x ≡ true
  here x h = (at_reach tabled x x h h).1 (tabled.self x h)

  pub exit_reached : (u : ℕ) → u < count g → (x : ℕ) × (x < count g) × Reaches es u x × Exit es x
  unfolding end_group
  exit_reached u hu =
      let (x, hx, way, all) = furthest (count g) there goes_there here (suc (Counting.count (there u) (count g))) u hu (omega arith) in
      (x, hx, (at_reach tabled u x hu hx).0 way, (at_end tabled at_exit x hx).0 all)

  pub entry_reaching : (u : ℕ) → u < count g → (x : ℕ) × (x < count g) × Reaches es x u × Entry es x
  unfolding end_group
  entry_reaching u hu =
      let (x, hx, way, all) = furthest (count g) (λ v w. there w v) (λ x y z hx hy hz p q. goes_there z y x hz hy hx q p) here (suc (Counting.count (λ w. there w u) (count g))) u hu (omega arith) in
      (x, hx, (at_reach tabled x u hx hu).0 way, (at_end tabled at_entry_lem x hx).0 all)
