-- Parts of several groups: none of their groups is both an entry and an exit.
use Rattle.std.proofs.Common.{◌≡◌, ℕ, ◌<◌, true, ◌⊎◌, List, inl, inr}
use Rattle.std.proofs.lemmas.Bool.{cases_Bool, both_ways}
use Rattle.std.proofs.lemmas.Bool.Decides.{not_from_Decides}
use Rattle.records.specs.declared.tables.Edge.{Edge}
use Rattle.records.specs.Tables.{edge}
use Rattle.waits.specs.Events.{In}
use Rattle.planning.specs.Backs.{Ground, count, wants_backs}
use Rattle.meaning.specs.Components.{Group, Joined, on as joined-on, Entry, Exit, Lowest}
use Rattle.meaning.proofs.Joins.{joined_back, handed_on}
use Rattle.meaning.proofs.Groups.{group_on, group_back}
use Rattle.meaning.proofs.Grounds.{Tabled, Wants, group, at_group, at_wants}

-- a group that is both an entry and an exit is a whole part
lone_group : {es : List Edge} {u v : ℕ} → Entry es u → Exit es u → Group es u u → Joined es u v → Group es u v
lone_group {es} {u} entry exit self j = handed_on es (Group es u) hand j self
  where
    hand : (x y d : ℕ) → In (edge x y d) es ⊎ In (edge y x d) es → Group es u x → Group es u y
    hand x y d (inl i) m = exit (edge x y d) i m
    hand x y d (inr i) m = entry (edge y x d) i m

module _ {g : Ground} {es : List Edge} (tabled : Tabled g es) where
  -- a part of several groups has none such
  pub ends_apart : (p u : ℕ) → Wants g es p → u < count g → Joined es p u → Entry es u → Exit es u → ⊥
  ends_apart p u (_, (w, _, i, apart)) h j entry exit =
      let self = tabled.self u h in
      let mate : (v : ℕ) → Joined es p v → Group es u v = λ v k. lone_group entry exit (self, self) (joined-on (joined_back j) k) in
      apart (group_on (group_back (mate p (joined-on j (joined_back j)))) (mate w i))

  -- the part of which p is the lowest actor is one group, or wants back links
  pub one_or_wants : (p : ℕ) → p < count g → Lowest (count g) (Joined es) p → ((w : ℕ) → w < count g → Joined es p w → Group es p w) ⊎ (wants_backs g p ≡ true)
  one_or_wants p hp low = elim (cases_Bool (wants_backs g p)) [
    | inl t ↦ inr t
    | inr f ↦ inl (λ w hw j. elim (cases_Bool (group g p w)) [
      | inl t ↦ (at_group tabled p w hp hw).0 t
      | inr n ↦ absurd (both_ways (wants_backs g p) f ((at_wants tabled p hp).1 (low, (w, hw, j, not_from_Decides _ (at_group tabled p w hp hw) n))))
    ])
  ]
