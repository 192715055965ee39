-- There are few back links: with the parts, at most as many as groups, so at most 15 between 16 processors.
use Rattle.std.proofs.Common.{◌≡◌, ℕ, zero, suc, ◌+◌, ◌<◌, ◌≤◌, Bool, true, false, cond, ◌&&◌, eqb, leb, List, [], length, sym, refl, ◌∙◌, ⊎_elim, arith}
use Rattle.std.specs.List.{range_with_len}
use Rattle.std.proofs.lemmas.List.{length-append, take_all}
use Rattle.std.proofs.lemmas.Bool.{cases_Bool, cases_lt, and_parts, and_from, not_from_false, eqb-true, eq-eqb, leb-true, le-leb}
use Rattle.records.specs.declared.tables.Edge.{Edge}
use Rattle.waits.specs.Counting.{count}
use Rattle.records.specs.Tables.{processor_of}
use Rattle.planning.specs.Groups.{opens_group, opens_part, one_group}
use Rattle.planning.specs.Backs.{Ground, part_backs, wants_backs, backs_among, backs}
use Rattle.meaning.proofs.Known.{Known}
use Rattle.meaning.proofs.Tallies.{count_from, count_from_start, count_some, count_le, count_both, count_at_most}
use Rattle.meaning.proofs.Grounds.{Tabled, known_tabled, part, at_part, at_opens_part}
use Rattle.meaning.proofs.Openers.{opener, opener_equal, lowest_opener, parts_classes, opens_both, openers_few}
use Rattle.meaning.proofs.Heads.{part_backs_fewer}

-- the groups, and the parts
abbrev pub groups : Ground → ℕ
groups g = count (λ u. opens_group (length g.actors) g.delays u) (length g.actors)

abbrev pub parts : Ground → ℕ
parts g = count (λ u. opens_part (length g.actors) g.joined u) (length g.actors)

module _ (g : Ground) (es : List Edge) (known : Known g es) where
  abbrev n : ℕ
  n = length g.actors

  abbrev tabled : Tabled g es
  tabled = known_tabled known

  abbrev first : ℕ → Bool
  first u = opens_group n g.delays u

  -- the lowest actor of the part of u
  abbrev front : ℕ → ℕ
  front u = opener n (part g) u

  front_is : (p u : ℕ) → p < n → u < n → opens_part n g.joined p ≡ true → part g p u ≡ true → front u ≡ p
  front_is p u hp hu o s =
      let classes = parts_classes tabled in
      sym (opener_equal classes p u hp hu ((at_part tabled p u hp hu).0 s)) ∙ lowest_opener classes p hp ((at_opens_part tabled p hp).0 o)

  -- of the part whose lowest actor is p
  of_part : (lead p : ℕ) → p < n
      → length (cond (wants_backs g p) (part_backs g lead p) []) + cond (opens_part n g.joined p) 1 0 ≤ count (λ u. first u && eqb (front u) p) n
  of_part lead p h =
      ⊎_elim
      (λ (o : opens_part n g.joined p ≡ true).
      ⊎_elim
      (λ (one : one_group n g.delays g.joined p ≡ true).
      rw (o, one) (omega (
        arith,
        count_some (λ u. first u && eqb (front u) p) n p h
            (and_from (first p) (eqb (front p) p) (opens_both tabled p h o) (eq-eqb (front p) p (front_is p p h h o (((parts_classes tabled).decides p p h h).1 ((parts_classes tabled).itself p h))))),
      )))
      (λ (several : one_group n g.delays g.joined p ≡ false).
      rw (o, several) (omega (
        arith,
        part_backs_fewer tabled lead p h (and_from _ _ o (not_from_false _ several)),
        count_le (λ u. part g p u && first u) (λ u. first u && eqb (front u) p) n (λ u hu t.
            let two = and_parts (part g p u) (first u) t in
            and_from (first u) (eqb (front u) p) two.1 (eq-eqb (front u) p (front_is p u h hu o two.0))),
      )))
      (cases_Bool (one_group n g.delays g.joined p)))
      (λ (o : opens_part n g.joined p ≡ false). rw o (omega arith))
      (cases_Bool (opens_part n g.joined p))

  from_on : (lead a k : ℕ) → a + k ≤ n
      → length (backs_among g lead (range_with_len a k)) + count_from (λ u. opens_part n g.joined u) a k ≤ count (λ u. first u && leb a (front u)) n
  from_on lead a zero h = omega arith
  from_on lead a (suc k) h =
      let rest = from_on lead (a + 1) k (omega arith) in
      let here = of_part lead a (omega arith) in
      let both = count_both (λ u. first u && eqb (front u) a) (λ u. first u && leb (a + 1) (front u)) (λ u. first u && leb a (front u)) n
      (λ u l t. let two = and_parts (first u) (eqb (front u) a) t in
      and_from (first u) (leb a (front u)) two.0 (le-leb a (front u) (omega (arith, eqb-true (front u) a two.1))))
      (λ u l t. let two = and_parts (first u) (leb (a + 1) (front u)) t in
      and_from (first u) (leb a (front u)) two.0 (le-leb a (front u) (omega (arith, leb-true (a + 1) (front u) two.1))))
      (λ u l s t. omega (arith, eqb-true (front u) a (and_parts (first u) (eqb (front u) a) s).1, leb-true (a + 1) (front u) (and_parts (first u) (leb (a + 1) (front u)) t).1)) in
      omega (arith, length-append (cond (wants_backs g a) (part_backs g lead a) []) (backs_among g lead (range_with_len (a + 1) k)))

  -- back links and parts together are no more than groups
  pub backs_groups : (lead : ℕ) → length (backs_among g lead (range_with_len 0 n)) + parts g ≤ groups g
  backs_groups lead =
      omega (
        arith,
        from_on lead 0 n (omega arith),
        count_from_start (λ u. opens_part n g.joined u) n,
        count_le (λ u. first u && leb 0 (front u)) first n (λ u l t. (and_parts (first u) (leb 0 (front u)) t).0),
      )

  some_part : 0 < n → 1 ≤ parts g
  unfolding opens_part
  some_part h = count_some (λ u. opens_part n g.joined u) n 0 h refl

  -- there are at most 15 back links
  pub few_backs : ((u : ℕ) → u < n → processor_of g.actors u < 16) → (lead : ℕ) → length (backs_among g lead (range_with_len 0 n)) ≤ 15
  few_backs low lead =
      let most = openers_few g es known 16 low in
      let sum = backs_groups lead in
      ⊎_elim
      (λ (l : 0 < n). omega (arith, some_part l))
      (λ (l : n ≤ 0). omega (arith, count_at_most first n))
      (cases_lt 0 n)

  -- so the room for 15 cuts none
  pub backs_uncut : ((u : ℕ) → u < n → processor_of g.actors u < 16) → (lead : ℕ) → backs g lead ≡ backs_among g lead (range_with_len 0 n)
  unfolding backs
  backs_uncut low lead = take_all 15 (backs_among g lead (range_with_len 0 n)) (few_backs low lead)
