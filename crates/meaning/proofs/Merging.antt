-- Links between groups join them into parts, each link two at most: so there are at least as many as back links.
use Rattle.std.proofs.Common.{◌≡◌, ℕ, ◌+◌, ◌<◌, ◌≤◌, Bool, true, false, cond, eqb, ◌⊎◌, List, [], ◌∷◌, map, length, sym, refl, ap, ◌∙◌, inl, inr, ⊎_elim, arith}
use Rattle.std.specs.List.{range_with_len}
use Rattle.std.proofs.lemmas.Bool.{cases_Bool, eqb-true, eq-eqb, cond-true, cond-false, ne_eqb}
use Rattle.records.specs.declared.tables.Edge.{Edge}
use Rattle.records.specs.declared.tables.Link.{Link}
use Rattle.records.specs.Tables.{edge, link_edge, processor_of}
use Rattle.waits.specs.Counting.{count}
use Rattle.waits.specs.Events.{In}
use Rattle.waits.proofs.Counting
use Rattle.planning.specs.Groups.{opens_group, opens_part}
use Rattle.planning.specs.Marks.{local}
use Rattle.planning.specs.Backs.{Ground, backs_among}
use Rattle.meaning.specs.Components.{Group, Joined}
use Rattle.meaning.proofs.Known.{Known}
use Rattle.meaning.proofs.Tallies.{count_le, count_but_one}
use Rattle.meaning.proofs.Joins.{handed_on}
use Rattle.meaning.proofs.Grounds.{Tabled, known_tabled, group, part, group_round, at_group, at_opens_group, at_opens_part}
use Rattle.meaning.proofs.Openers.{opener, opener_below, opener_shares, opener_lowest, opener_equal, lowest_opener, groups_classes, parts_classes}
use Rattle.meaning.proofs.Few.{groups, parts, backs_groups}

-- the edges es are those of the links ls, and others between actors of one processor
pub record Covered (g : Ground) (es : List Edge) (ls : List Link) : Type 0 where
  pub given : (e : Edge) → In e (map link_edge ls) → In e es
  pub turn_or_link : (e : Edge) → In e es → (processor_of g.actors e.sender ≡ processor_of g.actors e.receiver) ⊎ In e (map link_edge ls)

-- the cross links between two groups
abbrev pub between_groups : Ground → List Link → ℕ
between_groups g [] = 0
between_groups g (l ∷ ls) = cond (local g.actors (link_edge l)) 0 (cond (group g l.sender l.receiver) 0 1) + between_groups g ls

-- classes by a name for each actor; the class of a gets the name of b's
abbrev merge : (ℕ → ℕ) → ℕ → ℕ → ℕ → ℕ
merge c a b u = cond (eqb (c u) (c a)) (c b) (c u)

abbrev merged : (ℕ → ℕ) → List Link → ℕ → ℕ
merged c [] u = c u
merged c (l ∷ ls) u = merged (merge c l.sender l.receiver) ls u

merge_keeps : (c : ℕ → ℕ) (a b x y : ℕ) → c x ≡ c y → merge c a b x ≡ merge c a b y
merge_keeps c a b x y e = ap (λ z. cond (eqb z (c a)) (c b) z) e

merged_keeps : (c : ℕ → ℕ) (ls : List Link) (x y : ℕ) → c x ≡ c y → merged c ls x ≡ merged c ls y
merged_keeps c [] x y e = e
merged_keeps c (l ∷ ls) x y e = merged_keeps (merge c l.sender l.receiver) ls x y (merge_keeps c l.sender l.receiver x y e)

merge_joins : (c : ℕ → ℕ) (a b : ℕ) → merge c a b a ≡ merge c a b b
merge_joins c a b =
    cond-true (eqb (c a) (c a)) (c b) (c a) (eq-eqb (c a) (c a) refl)
    ∙ ⊎_elim
    (λ (t : eqb (c b) (c a) ≡ true). sym (cond-true (eqb (c b) (c a)) (c b) (c b) t))
    (λ (f : eqb (c b) (c a) ≡ false). sym (cond-false (eqb (c b) (c a)) (c b) (c b) f))
    (cases_Bool (eqb (c b) (c a)))

-- the ends of each link are joined
merged_joins : (c : ℕ → ℕ) (ls : List Link) (x y d : ℕ) → In (edge x y d) (map link_edge ls) → merged c ls x ≡ merged c ls y
merged_joins c [] x y d i = absurd i
merged_joins c (l ∷ ls) x y d (inl p) =
    let s : x ≡ l.sender = ap (λ (e : Edge). e.sender) p in let r : y ≡ l.receiver = ap (λ (e : Edge). e.receiver) p in
    let m = merge c l.sender l.receiver in
    merged_keeps m ls x y (ap m s ∙ merge_joins c l.sender l.receiver ∙ ap m (sym r))
merged_joins c (l ∷ ls) x y d (inr i) = merged_joins (merge c l.sender l.receiver) ls x y d i

-- the actors that name their class
abbrev names : (ℕ → ℕ) → ℕ → Bool
names c u = eqb (c u) u

merge_loses_one : (c : ℕ → ℕ) (a b n : ℕ) → count (names c) n ≤ count (names (merge c a b)) n + 1
merge_loses_one c a b n = count_but_one (names c) (names (merge c a b)) (c a) n (λ i l t ne.
    let e = eqb-true (c i) i t in
    let f = ne_eqb (c i) (c a) (λ (z : c i ≡ c a). ne (sym e ∙ z)) in
    eq-eqb (merge c a b i) i (cond-false (eqb (c i) (c a)) (c b) (c i) f ∙ e))

merge_loses_none : (c : ℕ → ℕ) (a b n : ℕ) → c a ≡ c b → count (names c) n ≤ count (names (merge c a b)) n
merge_loses_none c a b n same = count_le (names c) (names (merge c a b)) n (λ i l t.
    let e = eqb-true (c i) i t in
    eq-eqb (merge c a b i) i
    (⊎_elim
    (λ (y : eqb (c i) (c a) ≡ true). cond-true (eqb (c i) (c a)) (c b) (c i) y ∙ sym same ∙ sym (eqb-true (c i) (c a) y) ∙ e)
    (λ (f : eqb (c i) (c a) ≡ false). cond-false (eqb (c i) (c a)) (c b) (c i) f ∙ e)
    (cases_Bool (eqb (c i) (c a)))))

module _ (g : Ground) (es : List Edge) (known : Known g es) where
  abbrev n : ℕ
  n = length g.actors

  abbrev tabled : Tabled g es
  tabled = known_tabled known

  -- as many classes are lost as there are links between groups, or fewer
  merged_loses : (ls : List Link) → ((e : Edge) → In e (map link_edge ls) → In e es) → (c : ℕ → ℕ)
      → ((x y : ℕ) → x < n → y < n → Group es x y → c x ≡ c y) → count (names c) n ≤ count (names (λ u. merged c ls u)) n + between_groups g ls
  merged_loses [] given c whole = omega arith
  merged_loses (l ∷ ls) given c whole =
      let a = l.sender in
      let b = l.receiver in
      let ends = known.small.within (link_edge l) (given (link_edge l) (inl refl)) in
      let rest = merged_loses ls (λ e i. given e (inr i)) (merge c a b) (λ x y hx hy s. merge_keeps c a b x y (whole x y hx hy s)) in
      ⊎_elim
      (λ (t : local g.actors (link_edge l) ≡ true).
      let s = group_round known a b ends.0 ends.1 (eqb-true (processor_of g.actors a) (processor_of g.actors b) t) in
      rw t (omega (arith, merge_loses_none c a b n (whole a b ends.0 ends.1 s))))
      (λ (f : local g.actors (link_edge l) ≡ false).
      ⊎_elim
      (λ (s : group g a b ≡ true). rw (f, s) (omega (arith, merge_loses_none c a b n (whole a b ends.0 ends.1 ((at_group tabled a b ends.0 ends.1).0 s)))))
      (λ (s : group g a b ≡ false). rw (f, s) (omega (arith, merge_loses_one c a b n)))
      (cases_Bool (group g a b)))
      (cases_Bool (local g.actors (link_edge l)))

  module _ (ls : List Link) (covered : Covered g es ls) where
    -- the name of an actor's group, and in the end of its part
    abbrev first : ℕ → ℕ
    first u = opener n (group g) u

    abbrev final : ℕ → ℕ
    final u = merged first ls u

    first_same : (x y : ℕ) → x < n → y < n → Group es x y → first x ≡ first y
    first_same x y hx hy s = opener_equal (groups_classes tabled) x y hx hy s

    edge_same : (x y d : ℕ) → In (edge x y d) es → final x ≡ final y
    edge_same x y d i =
        let ends = known.small.within (edge x y d) i in
        ⊎_elim
        (λ (e : processor_of g.actors x ≡ processor_of g.actors y).
        merged_keeps first ls x y (first_same x y ends.0 ends.1 (group_round known x y ends.0 ends.1 e)))
        (λ (j : In (edge x y d) (map link_edge ls)). merged_joins first ls x y d j)
        (covered.turn_or_link (edge x y d) i)

    final_same : (u v : ℕ) → Joined es u v → final u ≡ final v
    final_same u v j =
        handed_on es (λ x. final u ≡ final x)
        (λ x y d i c. c ∙ ⊎_elim (λ (j : In (edge x y d) es). edge_same x y d j) (λ (j : In (edge y x d) es). sym (edge_same y x d j)) i)
        j refl

    groups_named : groups g ≤ count (names first) n
    groups_named = count_le (λ u. opens_group n g.delays u) (names first) n (λ u h t.
        eq-eqb (first u) u (lowest_opener (groups_classes tabled) u h ((at_opens_group tabled u h).0 t)))

    named_parts : count (names final) n ≤ parts g
    named_parts = Counting.counting (names final) (λ u. opens_part n g.joined u) final n n (λ e h t.
        let classes = parts_classes tabled in
        let j = opener n (part g) e in (
          j,
          opener_below classes e h,
          (at_opens_part tabled j (opener_below classes e h)).1 (opener_lowest classes e h),
          sym (final_same e j (opener_shares classes e h)) ∙ eqb-true (final e) e t,
        ))

    -- groups are no more than parts and links between groups
    pub groups_parts : groups g ≤ parts g + between_groups g ls
    groups_parts = omega (arith, groups_named, merged_loses ls covered.given first first_same, named_parts)

    -- back links are no more than the links between groups
    pub backs_between : (lead : ℕ) → length (backs_among g lead (range_with_len 0 n)) ≤ between_groups g ls
    backs_between lead = omega (arith, groups_parts, backs_groups g es known lead)
