-- The lowest actor of each group and of each part.
use Rattle.std.proofs.Common.{◌≡◌, ℕ, ◌<◌, ◌≤◌, Bool, true, ◌&&◌, eqb, List, Decides, refl, arith}
use Rattle.std.proofs.lemmas.Bool.{and_parts, and_from, eqb-true, eq-eqb}
use Rattle.records.specs.declared.tables.Edge.{Edge}
use Rattle.waits.specs.Counting
use Rattle.waits.proofs.Counting.{counting}
use Rattle.records.specs.Tables.{processor_of}
use Rattle.planning.specs.Groups.{opens_group, opens_part}
use Rattle.planning.specs.Backs.{Ground, count}
use Rattle.meaning.specs.Components.{Group, Joined, on as joined-on, Lowest}
use Rattle.meaning.proofs.Known.{Known}
use Rattle.meaning.proofs.Joins.{reaches_joins, joined_back}
use Rattle.meaning.proofs.Groups.{group_on, group_back}
use Rattle.meaning.proofs.Grounds.{Tabled, known_tabled, group, part, group_round, at_group, at_part, at_opens_group, at_opens_part}
use Rattle.meaning.proofs.Tallies.{lowest, Found, lowest_found}

-- a division of the numbers below n into classes, and the test of it
pub record Classes (n : ℕ) (S : ℕ → ℕ → Bool) (R : ℕ → ℕ → Type 0) : Type 0 where
  pub decides : (u v : ℕ) → u < n → v < n → Decides (S u v) (R u v)
  pub itself : (u : ℕ) → u < n → R u u
  pub flip : (u v : ℕ) → R u v → R v u
  pub through : (u w v : ℕ) → R u w → R w v → R u v

-- the lowest of a class
abbrev pub opener : ℕ → (ℕ → ℕ → Bool) → ℕ → ℕ
opener n S u = lowest (λ w. S u w) n

module _ {n : ℕ} {S : ℕ → ℕ → Bool} {R : ℕ → ℕ → Type 0} (classes : Classes n S R) where
  found : (u : ℕ) → u < n → Found (λ w. S u w) n (opener n S u)
  found u h = lowest_found (λ w. S u w) n u h ((classes.decides u u h h).1 (classes.itself u h))

  pub opener_below : (u : ℕ) → u < n → opener n S u < n
  opener_below u h = (found u h).below

  pub opener_shares : (u : ℕ) → u < n → R u (opener n S u)
  opener_shares u h = (classes.decides u (opener n S u) h (opener_below u h)).0 (found u h).passes

  opener_least : (u : ℕ) → u < n → (w : ℕ) → w < n → R u w → opener n S u ≤ w
  opener_least u h w l r = (found u h).low w ((classes.decides u w h l).1 r)

  pub opener_lowest : (u : ℕ) → u < n → Lowest n R (opener n S u)
  opener_lowest u h w l r = opener_least u h w l (classes.through u (opener n S u) w (opener_shares u h) r)

  pub opener_equal : (u v : ℕ) → u < n → v < n → R u v → opener n S u ≡ opener n S v
  opener_equal u v hu hv r =
      omega (
        arith,
        opener_least u hu (opener n S v) (opener_below v hv) (classes.through u v (opener n S v) r (opener_shares v hv)),
        opener_least v hv (opener n S u) (opener_below u hu) (classes.through v u (opener n S u) (classes.flip u v r) (opener_shares u hu)),
      )

  pub lowest_opener : (u : ℕ) → u < n → Lowest n R u → opener n S u ≡ u
  lowest_opener u h low = omega (arith, low (opener n S u) (opener_below u h) (opener_shares u h), opener_least u h u h (classes.itself u h))

  pub lowest_once : (u v : ℕ) → u < n → v < n → Lowest n R u → Lowest n R v → R u v → u ≡ v
  lowest_once u v hu hv a b r = omega (arith, a v hv r, b u hu (classes.flip u v r))

module _ {g : Ground} {es : List Edge} (t : Tabled g es) where
  pub groups_classes : Classes (count g) (group g) (Group es)
  groups_classes = record {
    decides = at_group t;
    itself = λ u h. (t.self u h, t.self u h);
    flip = λ u v. group_back;
    through = λ u w v. group_on;
  }

  pub parts_classes : Classes (count g) (part g) (Joined es)
  parts_classes = record {
    decides = at_part t;
    itself = λ u h. reaches_joins (t.self u h);
    flip = λ u v. joined_back;
    through = λ u w v p q. joined-on p q;
  }

  -- who opens a part opens a group
  pub opens_both : (u : ℕ) → u < count g → opens_part (count g) g.joined u ≡ true → opens_group (count g) g.delays u ≡ true
  opens_both u h o = (at_opens_group t u h).1 (λ w l s. (at_opens_part t u h).0 o w l (reaches_joins s.0))

-- there are at most as many groups as processors
pub openers_few : (g : Ground) (es : List Edge) → Known g es → (k : ℕ) → ((u : ℕ) → u < count g → processor_of g.actors u < k)
    → Counting.count (λ u. opens_group (count g) g.delays u) (count g) ≤ Counting.count (λ _. true) k
openers_few g es known k low =
    counting (λ u. opens_group (count g) g.delays u) (λ _. true) (λ p. lowest (on p) (count g)) (count g) k (λ e h t. (processor_of g.actors e, low e h, refl, found_on e h t))
  where
    on : ℕ → ℕ → Bool
    on p u = opens_group (count g) g.delays u && eqb (processor_of g.actors u) p

    found_on : (e : ℕ) → e < count g → opens_group (count g) g.delays e ≡ true → lowest (on (processor_of g.actors e)) (count g) ≡ e
    found_on e h t =
        let tabled = known_tabled known in
        let p = processor_of g.actors e in
        let a = lowest_found (on p) (count g) e h (and_from (opens_group (count g) g.delays e) (eqb p p) t (eq-eqb p p refl)) in
        let m = lowest (on p) (count g) in
        let two = and_parts (opens_group (count g) g.delays m) (eqb (processor_of g.actors m) p) a.passes in
        lowest_once (groups_classes tabled) m e a.below h ((at_opens_group tabled m a.below).0 two.0) ((at_opens_group tabled e h).0 t)
        (group_round known m e a.below h (eqb-true (processor_of g.actors m) p two.1))
