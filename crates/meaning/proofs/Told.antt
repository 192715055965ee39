-- The back links of a part with the groups that they join, and that no two of them are the same edge.
use Rattle.std.proofs.Common.{◌≡◌, ℕ, zero, suc, ◌+◌, ◌<◌, ◌≤◌, true, List, [], ◌∷◌, ◌++◌, Some, None, sym, refl, ap, ◌∙◌, subst, inl, inr, arith}
use Rattle.std.specs.List.{range_with_len}
use Rattle.std.proofs.lemmas.Bool.{cond_both}
use Rattle.records.specs.declared.tables.Edge.{Edge}
use Rattle.records.specs.declared.tables.Link.{Link}
use Rattle.records.specs.Tables.{link_edge}
use Rattle.planning.specs.declared.End.{End}
use Rattle.planning.specs.declared.End.TheVariants.{Entry, Exit}
use Rattle.planning.specs.Backs.{Ground, count, stand, groups_of, back_link, chain, closing, first_or, last_or, part_backs, wants_backs, backs_among}
use Rattle.meaning.specs.Components.{Group, Rises, Joined, on as joined-on}
use Rattle.meaning.proofs.Known.{Known}
use Rattle.meaning.proofs.Joins.{reaches_joins, joined_back}
use Rattle.meaning.proofs.Grounds.{Tabled, known_tabled, Ends, Head, Wants, at_wants}
use Rattle.meaning.proofs.Openers.{lowest_once, parts_classes}
use Rattle.meaning.proofs.Rising.{Has, has-++, counting_has, rises_low, Next, next_has, next_rises, first_has, last_has, first_lowest, last_highest}
use Rattle.meaning.proofs.Leaders.{stand_mate, heads_same, groups_head, head_groups, groups_rising}
use Rattle.meaning.proofs.LinkKinds.{Chained, chain_chained, Kind, part_kind, backs_back}
use Rattle.meaning.proofs.Parts.{ends_apart}
use Rattle.meaning.proofs.Climbing.{to_head}
use Rattle.meaning.proofs.BackEdges.{all_backs}
use Rattle.meaning.proofs.Distinct.{Distinct, distinct-++}

module _ {g : Ground} {es : List Edge} (tabled : Tabled g es) (lead : ℕ) where
  pub data Told (p : ℕ) : Link → Type 0 where
    enters : (u w : ℕ) → Next u w (groups_of g Entry p) → Head g es Entry p u → Head g es Entry p w → u < w → Told p (back_link (stand g u) (stand g w) 0)
    leaves : (u w : ℕ) → Next u w (groups_of g Exit p) → Head g es Exit p u → Head g es Exit p w → u < w → Told p (back_link (stand g u) (stand g w) 0)
    closes : Head g es Exit p (last_or p (groups_of g Exit p)) → Head g es Entry p (first_or p (groups_of g Entry p)) → Told p (closing g lead p)

  pub kind_told : (p : ℕ) → p < count g → (b : Link) → Kind g lead p b → Told p b
  kind_told p h b (inl (u, w, n, e)) =
      let has = next_has u w (groups_of g Entry p) n in
      subst (λ x. Told p x) (sym e) (enters u w n (groups_head tabled Entry p h u has.0) (groups_head tabled Entry p h w has.1) (next_rises u w (groups_of g Entry p) (groups_rising tabled Entry p h) n))
  kind_told p h b (inr (inl (u, w, n, e))) =
      let has = next_has u w (groups_of g Exit p) n in
      subst (λ x. Told p x) (sym e) (leaves u w n (groups_head tabled Exit p h u has.0) (groups_head tabled Exit p h w has.1) (next_rises u w (groups_of g Exit p) (groups_rising tabled Exit p h) n))
  kind_told p h b (inr (inr e)) =
      let self = reaches_joins (tabled.self p h) in
      let (x, hx, out) = to_head tabled Exit p p h self in
      let (y, hy, into) = to_head tabled Entry p p h self in
      subst (λ x. Told p x) (sym e)
      (closes
      (groups_head tabled Exit p h (last_or p (groups_of g Exit p)) (last_has p x (groups_of g Exit p) (head_groups tabled Exit p h x hx)))
      (groups_head tabled Entry p h (first_or p (groups_of g Entry p)) (first_has p y (groups_of g Entry p) (head_groups tabled Entry p h y hy))))

  stand_joined : (end : End) (p u : ℕ) → Head g es end p u → Joined es p (stand g u)
  stand_joined end p u h = joined-on h.joined (reaches_joins (stand_mate tabled h).0)

  -- both ends of a back link are in its part
  pub told_joined : (p : ℕ) (b : Link) → Told p b → Joined es p b.sender × Joined es p b.receiver
  told_joined p _ (enters u w n hu hw l) = (stand_joined Entry p u hu, stand_joined Entry p w hw)
  told_joined p _ (leaves u w n hu hw l) = (stand_joined Exit p u hu, stand_joined Exit p w hw)
  told_joined p _ (closes hu hw) = (stand_joined Exit p (last_or p (groups_of g Exit p)) hu, stand_joined Entry p (first_or p (groups_of g Entry p)) hw)

  -- a back link, told by its part
  pub backs_told : (b : Link) → Has b (all_backs g lead) → (p : ℕ) × (p < count g) × Wants g es p × Told p b
  backs_told b h =
      let (p, k, t, j) = backs_back g lead (range_with_len 0 (count g)) b h in
      let hp : p < count g = omega (arith, counting_has 0 (count g) p k) in
      (p, hp, (at_wants tabled p hp).0 t, kind_told p hp b (part_kind g lead p b j))

  -- the same actor stands for two groups only if they have the same head
  stands_one : (end end' : End) (p u v : ℕ) → Head g es end p u → Head g es end' p v → stand g u ≡ stand g v → u ≡ v
  stands_one end end' p u v h k e = heads_same tabled h k (subst (λ x. Group es u x) e (stand_mate tabled h))

  abbrev Apart : Link → Link → Type 0
  Apart b c = link_edge b ≡ link_edge c → ⊥

  chain_distinct : (end : End) (p x : ℕ) (us : List ℕ) → ((u : ℕ) → Has u (x ∷ us) → Head g es end p u) → Rises (x ∷ us) → Distinct link_edge (chain g (Some x) us)
  chain_distinct end p x [] heads r = tt
  chain_distinct end p x (y ∷ us) heads r =
      ((λ c h q. later c (chain_chained g (y ∷ us) c h) q), chain_distinct end p y us (λ u h. heads u (inr h)) r.1)
    where
      later : (c : Link) → Chained g (y ∷ us) c → link_edge (back_link (stand g x) (stand g y) 0) ≡ link_edge c → ⊥
      later c (u, w, n, e) q =
          let has = next_has u w (y ∷ us) n in
          let same : stand g y ≡ stand g w = ap (λ (z : Edge). z.receiver) q ∙ ap (λ (z : Link). z.receiver) e in
          let one = stands_one end end p y w (heads y (inr (inl refl))) (heads w (inr has.1)) same in
          omega (arith, next_rises u w (y ∷ us) r.1 n, rises_low y us r.1 u has.0)

  chains_distinct : (end : End) (p : ℕ) (us : List ℕ) → ((u : ℕ) → Has u us → Head g es end p u) → Rises us → Distinct link_edge (chain g None us)
  chains_distinct end p [] heads r = tt
  chains_distinct end p (x ∷ us) heads r = chain_distinct end p x us heads r

  module _ (p : ℕ) (hp : p < count g) (s : Wants g es p) where
    entry_head : (u : ℕ) → Has u (groups_of g Entry p) → Head g es Entry p u
    entry_head u h = groups_head tabled Entry p hp u h

    exit_head : (u : ℕ) → Has u (groups_of g Exit p) → Head g es Exit p u
    exit_head u h = groups_head tabled Exit p hp u h

    chains_apart : (b c : Link) → Chained g (groups_of g Entry p) b → Chained g (groups_of g Exit p) c → Apart b c
    chains_apart b c (u, w, n, e) (u', w', n', e') q =
        let h = entry_head w (next_has u w (groups_of g Entry p) n).1 in
        let k = exit_head w' (next_has u' w' (groups_of g Exit p) n').1 in
        let same : stand g w ≡ stand g w' = sym (ap (λ (z : Link). z.receiver) e) ∙ ap (λ (z : Edge). z.receiver) q ∙ ap (λ (z : Link). z.receiver) e' in
        let one = stands_one Entry Exit p w w' h k same in
        ends_apart tabled p w s h.under h.joined h.ends (subst (λ x. Ends es Exit x) (sym one) k.ends)

    entry_closing : (b c : Link) → Chained g (groups_of g Entry p) b → c ≡ closing g lead p → Apart b c
    entry_closing b c (u, w, n, e) e' q =
        let has = next_has u w (groups_of g Entry p) n in
        let f = first_or p (groups_of g Entry p) in
        let same : stand g w ≡ stand g f = sym (ap (λ (z : Link). z.receiver) e) ∙ ap (λ (z : Edge). z.receiver) q ∙ ap (λ (z : Link). z.receiver) e' in
        let one = stands_one Entry Entry p w f (entry_head w has.1) (entry_head f (first_has p w (groups_of g Entry p) has.1)) same in
        omega (arith, next_rises u w (groups_of g Entry p) (groups_rising tabled Entry p hp) n, first_lowest p u (groups_of g Entry p) (groups_rising tabled Entry p hp) has.0)

    exit_closing : (b c : Link) → Chained g (groups_of g Exit p) b → c ≡ closing g lead p → Apart b c
    exit_closing b c (u, w, n, e) e' q =
        let has = next_has u w (groups_of g Exit p) n in
        let f = last_or p (groups_of g Exit p) in
        let same : stand g u ≡ stand g f = sym (ap (λ (z : Link). z.sender) e) ∙ ap (λ (z : Edge). z.sender) q ∙ ap (λ (z : Link). z.sender) e' in
        let one = stands_one Exit Exit p u f (exit_head u has.0) (exit_head f (last_has p w (groups_of g Exit p) has.1)) same in
        omega (arith, next_rises u w (groups_of g Exit p) (groups_rising tabled Exit p hp) n, last_highest p w (groups_of g Exit p) (groups_rising tabled Exit p hp) has.1)

    lone : (c : Link) → Has c (closing g lead p ∷ []) → c ≡ closing g lead p
    lone c (inl e) = e
    lone c (inr h) = absurd h

    part_distinct : Distinct link_edge (part_backs g lead p)
    unfolding part_backs
    part_distinct =
        distinct-++ link_edge (chain g None (groups_of g Entry p)) (chain g None (groups_of g Exit p) ++ (closing g lead p ∷ []))
        (chains_distinct Entry p (groups_of g Entry p) entry_head (groups_rising tabled Entry p hp))
        (distinct-++ link_edge (chain g None (groups_of g Exit p)) (closing g lead p ∷ [])
        (chains_distinct Exit p (groups_of g Exit p) exit_head (groups_rising tabled Exit p hp))
        ((λ y h q. absurd h), tt)
        (λ b c h k. exit_closing b c (chain_chained g (groups_of g Exit p) b h) (lone c k)))
        (λ b c h k. elim (has-++ c (chain g None (groups_of g Exit p)) (closing g lead p ∷ []) k) [
          | inl l ↦ chains_apart b c (chain_chained g (groups_of g Entry p) b h) (chain_chained g (groups_of g Exit p) c l)
          | inr r ↦ entry_closing b c (chain_chained g (groups_of g Entry p) b h) (lone c r)
        ])

  -- back links of two parts have different ends
  parts_apart : (p q : ℕ) → p < q → q < count g → wants_backs g p ≡ true → wants_backs g q ≡ true → (b c : Link) → Has b (part_backs g lead p) → Has c (part_backs g lead q) → Apart b c
  parts_apart p q l hq tp tq b c h k e =
      let hp : p < count g = omega arith in
      let i = (told_joined p b (kind_told p hp b (part_kind g lead p b h))).0 in
      let j = (told_joined q c (kind_told q hq c (part_kind g lead q c k))).0 in
      let same : c.sender ≡ b.sender = sym (ap (λ (z : Edge). z.sender) e) in
      let one = lowest_once (parts_classes tabled) p q hp hq ((at_wants tabled p hp).0 tp).0 ((at_wants tabled q hq).0 tq).0
      (joined-on i (joined_back (subst (λ x. Joined es q x) same j))) in
      omega arith

  among_distinct : (a k : ℕ) → a + k ≤ count g → Distinct link_edge (backs_among g lead (range_with_len a k))
  among_distinct a zero h = tt
  among_distinct a (suc k) h =
      let rest = backs_among g lead (range_with_len (a + 1) k) in
      let more = among_distinct (a + 1) k (omega arith) in
      cond_both (wants_backs g a) (part_backs g lead a) [] (λ l. Distinct link_edge (l ++ rest))
      (λ t. distinct-++ link_edge (part_backs g lead a) rest (part_distinct a (omega arith) ((at_wants tabled a (omega arith)).0 t)) more
      (λ b c i j.
      let (q, m, t', n) = backs_back g lead (range_with_len (a + 1) k) c j in
      let in_range = counting_has (a + 1) k q m in
      parts_apart a q (omega arith) (omega arith) t t' b c i n))
      (λ f. more)

-- no two back links are the same edge
pub backs_distinct : {g : Ground} {es : List Edge} (known : Known g es) (lead : ℕ) → Distinct link_edge (all_backs g lead)
backs_distinct {g} known lead = among_distinct (known_tabled known) lead 0 (count g) (omega arith)
