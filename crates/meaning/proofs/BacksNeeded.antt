-- No back link can be left out: without it nothing leads from its sender to its receiver.
use Rattle.std.proofs.Common.{◌≡◌, ℕ, ◌<◌, ◌⊎◌, List, ◌∷◌, ◌++◌, map, sym, refl, ap, ◌∙◌, subst, inl, inr, arith}
use Rattle.std.proofs.lemmas.Bool.{cases_lt, cases_Bool}
use Rattle.std.proofs.lemmas.Bool.Decides.{not_from_Decides}
use Rattle.records.specs.declared.tables.Edge.{Edge}
use Rattle.records.specs.declared.tables.Link.{Link}
use Rattle.records.specs.Tables.{edge, link_edge}
use Rattle.waits.specs.Events.{In, Within, Path, last, step}
use Rattle.waits.proofs.Paths.{in-++}
use Rattle.planning.specs.declared.End.{End}
use Rattle.planning.specs.declared.End.TheVariants.{Entry, Exit}
use Rattle.planning.specs.Backs.{Ground, count, stand, groups_of, back_link, closing, first_or, last_or}
use Rattle.meaning.specs.Components.{Reaches, Group, Joined, on as joined-on}
use Rattle.meaning.proofs.Known.{Known}
use Rattle.meaning.proofs.Joins.{reaches_joins, joined_back}
use Rattle.meaning.proofs.Grounds.{Tabled, known_tabled, Ends, Head, Wants, group, at_group}
use Rattle.meaning.proofs.Openers.{lowest_once, parts_classes}
use Rattle.meaning.proofs.Rising.{Has, has-++, has_left, has_right, Next, next_has, next_rises, first_lowest, last_highest, one_before, one_after}
use Rattle.meaning.proofs.Leaders.{stand_mate, heads_same, groups_rising}
use Rattle.meaning.proofs.LinkKinds.{in_map, map_in}
use Rattle.meaning.proofs.Parts.{ends_apart}
use Rattle.meaning.proofs.BackEdges.{all_backs, back_edges, with_backs}
use Rattle.meaning.proofs.Chosen.{in_left, in_right}
use Rattle.meaning.proofs.Distinct.{Distinct, distinct_split}
use Rattle.meaning.proofs.Told.{Told, enters, leaves, closes, told_joined, backs_told, backs_distinct}

-- a path from P to Q has an edge from P to Q
crossing : (P Q : ℕ → Type 0) → ((w : ℕ) → P w ⊎ Q w) → (fs : List Edge) {u v t : ℕ} → Path fs u v t → P u → Q v → (e : Edge) × In e fs × P e.sender × Q e.receiver
crossing P Q split fs (last {u} {v} {d} i) a b = (edge u v d, i, a, b)
crossing P Q split fs (step {u} {w} d i p) a b = elim (split w) [
  | inl c ↦ crossing P Q split fs p c b
  | inr c ↦ (edge u w d, i, a, c)
]

path_stops : {es : List Edge} (n : ℕ) → Within n es → {u v t : ℕ} → Path es u v t → v < n
path_stops n within (last {u} {v} {d} i) = (within (edge u v d) i).1
path_stops n within (step d i p) = path_stops n within p

-- an entry group is entered from outside, an exit group is left
abbrev Before : List Edge → End → ℕ → ℕ → Type 0
Before es Entry h w = Group es h w → ⊥
Before es Exit h w = Group es h w

abbrev After : List Edge → End → ℕ → ℕ → Type 0
After es Entry h w = Group es h w
After es Exit h w = Group es h w → ⊥

module _ {g : Ground} {es : List Edge} (known : Known g es) (lead : ℕ) where
  abbrev tabled : Tabled g es
  tabled = known_tabled known

  -- b is the one edge into the group of an entry head, or out of that of an exit head
  record Cut (b : Link) : Type 0 where
    pub end : End
    pub head : ℕ
    pub under : head < count g
    pub ends : Ends es end head
    pub start : Before es end head b.sender
    pub stop : After es end head b.receiver
    pub only : (e : Edge) → In e (with_backs g lead es) → Before es end head e.sender → After es end head e.receiver → e ≡ link_edge b

  cases_group : (h w : ℕ) → h < count g → Group es h w ⊎ (Group es h w → ⊥)
  cases_group h w hh = elim (cases_lt w (count g)) [
    | inl l ↦ elim (cases_Bool (group g h w)) [
      | inl t ↦ inl ((at_group tabled h w hh l).0 t)
      | inr f ↦ inr (not_from_Decides _ (at_group tabled h w hh l) f)
    ]
    | inr l ↦ inr (λ m. omega (arith, path_stops (count g) known.small.within m.0.1))
  ]

  split : (end : End) (h w : ℕ) → h < count g → Before es end h w ⊎ After es end h w
  split Entry h w hh = elim (cases_group h w hh) [ inl m ↦ inr m | inr n ↦ inl n ]
  split Exit h w hh = cases_group h w hh

  -- no edge of es crosses
  none_crosses : (end : End) (h : ℕ) → Ends es end h → (e : Edge) → In e es → Before es end h e.sender → After es end h e.receiver → ⊥
  none_crosses Entry h f e i a b = a (f e i b)
  none_crosses Exit h f e i a b = b (f e i a)

  -- the back links into the group of an entry head
  into_entry : (p h : ℕ) → Wants g es p → Head g es Entry p h → (b : Link) → Told tabled lead p b → Group es h b.receiver
      → ((u : ℕ) × Next u h (groups_of g Entry p) × (b ≡ back_link (stand g u) (stand g h) 0)) ⊎ ((h ≡ first_or p (groups_of g Entry p)) × (b ≡ closing g lead p))
  into_entry p h s k _ (enters u w n hu hw l) m =
      let e = sym (heads_same tabled k hw m) in
      inl (u, subst (λ x. Next u x (groups_of g Entry p)) e n, ap (λ x. back_link (stand g u) (stand g x) 0) e)
  into_entry p h s k _ (leaves u w n hu hw l) m =
      let e = sym (heads_same tabled k hw m) in
      absurd (ends_apart tabled p h s k.under k.joined k.ends (subst (λ x. Ends es Exit x) e hw.ends))
  into_entry p h s k _ (closes hu hw) m = inr (heads_same tabled k hw m, refl)

  -- the back links out of the group of an exit head
  out_of_exit : (p h : ℕ) → Wants g es p → Head g es Exit p h → (b : Link) → Told tabled lead p b → Group es h b.sender
      → ((w : ℕ) × Next h w (groups_of g Exit p) × (b ≡ back_link (stand g h) (stand g w) 0)) ⊎ ((h ≡ last_or p (groups_of g Exit p)) × (b ≡ closing g lead p))
  out_of_exit p h s k _ (enters u w n hu hw l) m =
      let e = sym (heads_same tabled k hu m) in
      absurd (ends_apart tabled p h s k.under k.joined (subst (λ x. Ends es Entry x) e hu.ends) k.ends)
  out_of_exit p h s k _ (leaves u w n hu hw l) m =
      let e = sym (heads_same tabled k hu m) in
      inl (w, subst (λ x. Next x w (groups_of g Exit p)) e n, ap (λ x. back_link (stand g x) (stand g w) 0) e)
  out_of_exit p h s k _ (closes hu hw) m = inr (heads_same tabled k hu m, refl)

  -- a back link with an end in the part of p is one of p
  same_part_told : (p x : ℕ) → p < count g → Wants g es p → Joined es p x → (b : Link) → Has b (all_backs g lead) → (b.sender ≡ x) ⊎ (b.receiver ≡ x) → Told tabled lead p b
  same_part_told p x hp s j b h at =
      let (q, hq, r, t) = backs_told tabled lead b h in
      let two = told_joined tabled lead q b t in
      let i : Joined es q x = elim at [ inl e ↦ subst (λ y. Joined es q y) e two.0 | inr e ↦ subst (λ y. Joined es q y) e two.1 ] in
      subst (λ y. Told tabled lead y b) (sym (lowest_once (parts_classes tabled) p q hp hq s.0 r.0 (joined-on j (joined_back i)))) t

  module _ (p h : ℕ) (hp : p < count g) (s : Wants g es p) where
    only_into : (b : Link) → Head g es Entry p h → ((c : Link) → Told tabled lead p c → Group es h c.receiver → c ≡ b)
        → (e : Edge) → In e (with_backs g lead es) → Before es Entry h e.sender → After es Entry h e.receiver → e ≡ link_edge b
    only_into b k one e i a m = elim (in-++ e es (back_edges g lead) i) [
      | inl old ↦ absurd (none_crosses Entry h k.ends e old a m)
      | inr new ↦
          let (c, has, q) = in_map (all_backs g lead) e new in
          let m' : Group es h c.receiver = subst (λ (x : Edge). Group es h x.receiver) q m in
          q ∙ ap link_edge (one c (same_part_told p c.receiver hp s (joined-on k.joined (reaches_joins m'.0)) c has (inr refl)) m')
    ]

    only_out : (b : Link) → Head g es Exit p h → ((c : Link) → Told tabled lead p c → Group es h c.sender → c ≡ b)
        → (e : Edge) → In e (with_backs g lead es) → Before es Exit h e.sender → After es Exit h e.receiver → e ≡ link_edge b
    only_out b k one e i m a = elim (in-++ e es (back_edges g lead) i) [
      | inl old ↦ absurd (none_crosses Exit h k.ends e old m a)
      | inr new ↦
          let (c, has, q) = in_map (all_backs g lead) e new in
          let m' : Group es h c.sender = subst (λ (x : Edge). Group es h x.sender) q m in
          q ∙ ap link_edge (one c (same_part_told p c.sender hp s (joined-on k.joined (reaches_joins m'.0)) c has (inl refl)) m')
    ]

  cut : (p : ℕ) → p < count g → Wants g es p → (b : Link) → Told tabled lead p b → Cut b
  cut p hp s _ (enters u w n hu hw l) =
      record {
        end = Entry;
        head = w;
        under = hw.under;
        ends = hw.ends;
        start = λ m. omega (arith, heads_same tabled hw hu m);
        stop = stand_mate tabled hw;
        only = only_into p w hp s (back_link (stand g u) (stand g w) 0) hw one;
      }
    where
      one : (c : Link) → Told tabled lead p c → Group es w c.receiver → c ≡ back_link (stand g u) (stand g w) 0
      one c t m = elim (into_entry p w s hw c t m) [
        | inl (v, k, e) ↦ e ∙ ap (λ x. back_link (stand g x) (stand g w) 0) (one_before (groups_of g Entry p) (groups_rising tabled Entry p hp) v u w k n)
        | inr (e, q) ↦ absurd (omega (arith, first_lowest p u (groups_of g Entry p) (groups_rising tabled Entry p hp) (next_has u w (groups_of g Entry p) n).0))
      ]
  cut p hp s _ (leaves u w n hu hw l) =
      record {
        end = Exit;
        head = u;
        under = hu.under;
        ends = hu.ends;
        start = stand_mate tabled hu;
        stop = λ m. omega (arith, heads_same tabled hu hw m);
        only = only_out p u hp s (back_link (stand g u) (stand g w) 0) hu one;
      }
    where
      one : (c : Link) → Told tabled lead p c → Group es u c.sender → c ≡ back_link (stand g u) (stand g w) 0
      one c t m = elim (out_of_exit p u s hu c t m) [
        | inl (v, k, e) ↦ e ∙ ap (λ x. back_link (stand g u) (stand g x) 0) (one_after (groups_of g Exit p) (groups_rising tabled Exit p hp) u v w k n)
        | inr (e, q) ↦ absurd (omega (arith, last_highest p w (groups_of g Exit p) (groups_rising tabled Exit p hp) (next_has u w (groups_of g Exit p) n).1))
      ]
  cut p hp s _ (closes hu hw) =
      record {
        end = Entry;
        head = first_or p (groups_of g Entry p);
        under = hw.under;
        ends = hw.ends;
        start = λ m.
            let e = heads_same tabled hw hu m in
            ends_apart tabled p (first_or p (groups_of g Entry p)) s hw.under hw.joined hw.ends (subst (λ x. Ends es Exit x) (sym e) hu.ends);
        stop = stand_mate tabled hw;
        only = only_into p (first_or p (groups_of g Entry p)) hp s (closing g lead p) hw one;
      }
    where
      one : (c : Link) → Told tabled lead p c → Group es (first_or p (groups_of g Entry p)) c.receiver → c ≡ closing g lead p
      one c t m = elim (into_entry p (first_or p (groups_of g Entry p)) s hw c t m) [
        | inl (v, k, e) ↦ absurd (omega (
          arith,
          next_rises v (first_or p (groups_of g Entry p)) (groups_of g Entry p) (groups_rising tabled Entry p hp) k,
          first_lowest p v (groups_of g Entry p) (groups_rising tabled Entry p hp) (next_has v (first_or p (groups_of g Entry p)) (groups_of g Entry p) k).0,
        ))
        | inr (e, q) ↦ q
      ]

  backs_cut : (b : Link) → Has b (all_backs g lead) → Cut b
  backs_cut b h = let (p, hp, s, t) = backs_told tabled lead b h in cut p hp s b t

  -- whatever edges of the drawing lead from the sender of a back link to its receiver, the link is among them
  pub backs_in : (b : Link) → Has b (all_backs g lead) → (fs : List Edge) → ((e : Edge) → In e fs → In e (with_backs g lead es))
      → Reaches fs b.sender b.receiver → In (link_edge b) fs
  backs_in b h fs sub l =
      let c = backs_cut b h in
      let (e, i, a, z) = crossing (Before es c.end c.head) (After es c.end c.head) (λ w. split c.end c.head w c.under) fs l.1 c.start c.stop in
      subst (λ x. In x fs) (c.only e (sub e i) a z) i

  -- a back link is no edge of es
  pub backs_new : (b : Link) → Has b (all_backs g lead) → In (link_edge b) es → ⊥
  backs_new b h i = let c = backs_cut b h in none_crosses c.end c.head c.ends (link_edge b) i c.start c.stop

  -- the back links but for one place
  skips : (xs ys : List Link) (b c : Link) → Has c (xs ++ ys) → Has c (xs ++ (b ∷ ys))
  skips xs ys b c h = elim (has-++ c xs ys h) [ inl l ↦ has_left c xs (b ∷ ys) l | inr r ↦ has_right c xs (b ∷ ys) (inr r) ]

  -- without the back link at one place nothing leads from its sender to its receiver
  pub backs_needed : (xs ys : List Link) (b : Link) → all_backs g lead ≡ xs ++ (b ∷ ys) → Reaches (es ++ map link_edge (xs ++ ys)) b.sender b.receiver → ⊥
  backs_needed xs ys b q l = elim (in-++ (link_edge b) es (map link_edge (xs ++ ys)) found) [
    | inl old ↦ backs_new b here old
    | inr new ↦
        let (c, h, e) = in_map (xs ++ ys) (link_edge b) new in
        distinct_split link_edge xs ys b (subst (λ bs. Distinct link_edge bs) q (backs_distinct known lead)) c h e
  ]
    where
      here : Has b (all_backs g lead)
      here = subst (λ bs. Has b bs) (sym q) (has_right b xs (b ∷ ys) (inl refl))

      sub : (e : Edge) → In e (es ++ map link_edge (xs ++ ys)) → In e (with_backs g lead es)
      sub e i = elim (in-++ e es (map link_edge (xs ++ ys)) i) [
        | inl old ↦ in_left e es (back_edges g lead) old
        | inr new ↦
            let (c, h, z) = in_map (xs ++ ys) e new in
            in_right e es (back_edges g lead)
            (subst (λ x. In x (back_edges g lead)) (sym z) (map_in (all_backs g lead) c (subst (λ bs. Has c bs) (sym q) (skips xs ys b c h))))
      ]

      found : In (link_edge b) (es ++ map link_edge (xs ++ ys))
      found = backs_in b here (es ++ map link_edge (xs ++ ys)) sub l
