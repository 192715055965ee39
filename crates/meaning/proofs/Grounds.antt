-- What the tests on the tables of a ground decide, where the tables are those of some edges.
use Rattle.std.proofs.Common.{◌≡◌, ℕ, ◌<◌, Bool, true, false, not, ◌||◌, List, Decides, sym, refl, subst, inl, inr, arith}
use Rattle.std.proofs.lemmas.Bool.{cases_lt, or_parts, not-false, not-true, false≢true}
use Rattle.std.proofs.lemmas.Bool.Decides.{Decides-and, Decides-not, Decides-like, not_from_Decides}
use Rattle.records.specs.declared.tables.Edge.{Edge}
use Rattle.records.specs.Tables.{processor_of}
use Rattle.waits.specs.Events.{last}
use Rattle.planning.specs.declared.End.{End}
use Rattle.planning.specs.declared.End.TheVariants.{Entry as at_entry_lem, Exit as at_exit}
use Rattle.planning.specs.Tables.{least_delays, parts}
use Rattle.planning.specs.Groups.{all_below, reaches, same_group, same_part, end_group, opens_group, opens_part, grouped_if_joined, one_group}
use Rattle.planning.specs.Backs.{Ground, count, heads, wants_backs}
use Rattle.meaning.specs.Components.{Reaches, Group, Joined, Entry, Exit, Lowest, Several}
use Rattle.meaning.proofs.Known.{Known}
use Rattle.meaning.proofs.Reaching.{Small}
use Rattle.meaning.proofs.Tallies.{below_decides, one_fails}
use Rattle.meaning.proofs.Groups.{reaches_on, group_on, group_back, into_entry, out_of_exit, reaches_decides, group_decides, part_decides}

abbrev pub group : Ground → ℕ → ℕ → Bool
group g u v = same_group (count g) g.delays u v

abbrev pub part : Ground → ℕ → ℕ → Bool
part g u v = same_part (count g) g.joined u v

decides_if : {P Q : Type 0} (x y : Bool) → Decides x P → Decides y Q → Decides (not x || y) (P → Q)
decides_if true y dx dy = (λ t _. dy.0 t, λ f. dy.1 (f (dx.0 refl)))
decides_if false y dx dy = (λ _ p. absurd (false≢true (dx.1 p)), λ _. refl)

-- the lowest of those that pass a test
lowest_decides : (n u : ℕ) (test : ℕ → Bool) (Shares : ℕ → ℕ → Type 0) → u < n → ((w : ℕ) → w < n → Decides (test w) (Shares u w))
    → Decides (all_below (λ w. not (test w)) u) (Lowest n Shares u)
lowest_decides n u test Shares hu each =
    Decides-like _
    (λ none w h s. elim (cases_lt w u) [ inl l ↦ absurd (none w l s) | inr l ↦ l ])
    (λ low w h s. omega (arith, low w (omega arith) s))
    (below_decides (λ w. not (test w)) (λ w. Shares u w → ⊥) u (λ w h. Decides-not _ (each w (omega arith))))

-- the tables of the ground are those of es, over which each actor reaches itself
pub record Tabled (g : Ground) (es : List Edge) : Type 0 where
  pub small : Small (count g) es
  pub delays : g.delays ≡ least_delays (count g) es
  pub joined : g.joined ≡ parts (count g) es
  pub self : (x : ℕ) → x < count g → Reaches es x x

pub known_tabled : {g : Ground} {es : List Edge} → Known g es → Tabled g es
known_tabled known = record { small = known.small; delays = known.delays; joined = known.joined; self = λ x h. (1, known.turns x x h h refl) }

-- one processor, one group
pub group_round : {g : Ground} {es : List Edge} → Known g es → (u v : ℕ) → u < count g → v < count g → processor_of g.actors u ≡ processor_of g.actors v → Group es u v
group_round known u v hu hv e = ((1, known.turns u v hu hv e), (1, known.turns v u hv hu (sym e)))

-- the group of u is an entry group, or an exit group
abbrev pub Ends : List Edge → End → ℕ → Type 0
Ends es at_entry_lem u = Entry es u
Ends es at_exit u = Exit es u

-- it is that for each of its actors
pub ends_shared : (es : List Edge) (end : End) (u w : ℕ) → Group es u w → Ends es end u → Ends es end w
ends_shared es at_entry_lem u w i ends = λ e h k. group_on (group_back i) (ends e h (group_on i k))
ends_shared es at_exit u w i ends = λ e h k. group_on (group_back i) (ends e h (group_on i k))

-- u is the lowest actor of an entry or exit group in the part of p
pub record Head (g : Ground) (es : List Edge) (end : End) (p u : ℕ) : Type 0 where
  pub under : u < count g
  pub joined : Joined es p u
  pub lowest : Lowest (count g) (Group es) u
  pub ends : Ends es end u

-- p is the lowest actor of its part, and its part has several groups
abbrev pub Wants : Ground → List Edge → ℕ → Type 0
Wants g es p = Lowest (count g) (Joined es) p × Several (count g) es p

module _ {g : Ground} {es : List Edge} (t : Tabled g es) where
  abbrev n : ℕ
  n = count g

  pub at_reach : (u v : ℕ) → u < n → v < n → Decides (reaches n g.delays u v) (Reaches es u v)
  at_reach u v hu hv = subst (λ c. Decides (reaches n c u v) (Reaches es u v)) (sym t.delays) (reaches_decides n es t.small u v hu hv)

  pub at_group : (u v : ℕ) → u < n → v < n → Decides (group g u v) (Group es u v)
  at_group u v hu hv = subst (λ c. Decides (same_group n c u v) (Group es u v)) (sym t.delays) (group_decides n es t.small u v hu hv)

  pub at_part : (u v : ℕ) → u < n → v < n → Decides (part g u v) (Joined es u v)
  at_part u v hu hv = subst (λ c. Decides (same_part n c u v) (Joined es u v)) (sym t.joined) (part_decides n es t.small u v hu hv)

  pub at_opens_group : (u : ℕ) → u < n → Decides (opens_group n g.delays u) (Lowest n (Group es) u)
  unfolding opens_group
  at_opens_group u hu = lowest_decides n u (group g u) (Group es) hu (λ w h. at_group u w hu h)

  pub at_opens_part : (u : ℕ) → u < n → Decides (opens_part n g.joined u) (Lowest n (Joined es) u)
  unfolding opens_part
  at_opens_part u hu = lowest_decides n u (part g u) (Joined es) hu (λ w h. at_part u w hu h)

  at_one_group : (u : ℕ) → u < n → Decides (one_group n g.delays g.joined u) ((w : ℕ) → w < n → Joined es u w → Group es u w)
  unfolding one_group
  at_one_group u hu = below_decides _ (λ w. Joined es u w → Group es u w) n (λ w h. decides_if _ _ (at_part u w hu h) (at_group u w hu h))

  at_several : (u : ℕ) → u < n → Decides (not (one_group n g.delays g.joined u)) (Several n es u)
  unfolding one_group
  at_several u hu = (
    λ k.
        let (w, h, f) = one_fails (grouped_if_joined n g.delays g.joined u) n (not-true _ k) in
        let both = or_parts _ _ f in
        (w, h, (at_part u w hu h).0 (not-false _ both.0), not_from_Decides _ (at_group u w hu h) both.1),
    λ s. (Decides-not _ (at_one_group u hu)).1 (λ all. s.3 (all s.0 s.1 s.2)),
  )

  pub at_wants : (p : ℕ) → p < n → Decides (wants_backs g p) (Wants g es p)
  at_wants p hp = Decides-and _ _ (at_opens_part p hp) (at_several p hp)

  -- a group is an entry group if whoever reaches it is reached from it, and an exit group if whoever it reaches reaches it
  pub at_end : (end : End) (u : ℕ) → u < n → Decides (end_group end n g.delays u) (Ends es end u)
  unfolding end_group
  at_end at_entry_lem u hu =
      Decides-like _
      (λ answers e i m.
      let back = reaches_on {w = e.receiver} (e.delay, last i) m.1 in
      (answers e.sender (t.small.within e i).0 back, back))
      (λ entry w h r. (into_entry entry r.1 (t.self u hu, t.self u hu)).0)
      (below_decides _ (λ w. Reaches es w u → Reaches es u w) n (λ w h. decides_if _ _ (at_reach w u h hu) (at_reach u w hu h)))
  at_end at_exit u hu =
      Decides-like _
      (λ answers e i m.
      let there = reaches_on {w = e.sender} m.0 (e.delay, last i) in
      (there, answers e.receiver (t.small.within e i).1 there))
      (λ exit w h r. (out_of_exit exit r.1 (t.self u hu, t.self u hu)).1)
      (below_decides _ (λ w. Reaches es u w → Reaches es w u) n (λ w h. decides_if _ _ (at_reach u w hu h) (at_reach w u h hu)))

  pub at_head : (end : End) (p u : ℕ) → p < n → u < n → Decides (heads g end p u) (Head g es end p u)
  unfolding heads
  at_head end p u hp hu =
      Decides-like _ (λ h. record { under = hu; joined = h.0; lowest = h.1.0; ends = h.1.1 }) (λ h. (h.joined, (h.lowest, h.ends)))
      (Decides-and _ _ (at_part p u hp hu) (Decides-and _ _ (at_opens_group u hu) (at_end end u hu)))
