-- The back links create no delay-free cycle.
use Rattle.std.proofs.Common.{◌≡◌, ℕ, ◌+◌, ◌<◌, ◌≤◌, cond, List, sym, ap, ◌∙◌, subst, inl, inr, arith}
use Rattle.std.specs.List.{range_with_len}
use Rattle.std.proofs.lemmas.Bool.{cases_Bool, cond-true, cond-false, both_ways}
use Rattle.records.specs.declared.tables.Edge.{Edge}
use Rattle.records.specs.declared.tables.Link.{Link}
use Rattle.waits.specs.Events.{In, last, Live}
use Rattle.planning.specs.declared.End.TheVariants.{Entry, Exit}
use Rattle.planning.specs.Groups.{end_group}
use Rattle.planning.specs.Backs.{Ground, count, stand, groups_of, backs_among}
use Rattle.meaning.specs.Components.{Reaches, Group}
use Rattle.meaning.proofs.Known.{Known}
use Rattle.meaning.proofs.Groups.{group_back, into_entry, out_of_exit}
use Rattle.meaning.proofs.Grounds.{Tabled, known_tabled, Ends, ends_shared, Head, Wants, at_end, at_wants}
use Rattle.meaning.proofs.Openers.{opener_below, opener_equal, groups_classes}
use Rattle.meaning.proofs.Rising.{counting_has, next_has, next_rises}
use Rattle.meaning.proofs.Leaders.{low, stand_under, stand_mate, stand_low, stand_ends, groups_head, groups_rising}
use Rattle.meaning.proofs.LinkKinds.{in_map, Kind, part_kind, backs_back}
use Rattle.meaning.proofs.Parts.{ends_apart}
use Rattle.meaning.proofs.BackEdges.{back_edges, with_backs}
use Rattle.meaning.proofs.Potentials.{live_with}

module _ {g : Ground} {es : List Edge} (known : Known g es) where
  abbrev tabled : Tabled g es
  tabled = known_tabled known

  -- entry groups come first, exit groups last, each by its lowest actor
  pub height : ℕ → ℕ
  height u = cond (end_group Entry (count g) g.delays u) (low g u) (cond (end_group Exit (count g) g.delays u) (count g + 1 + low g u) (count g))

  -- what a group is, with its height
  data Placed (u : ℕ) : Type 0 where
    first : Ends es Entry u → height u ≡ low g u → Placed u
    middle : (Ends es Entry u → ⊥) → (Ends es Exit u → ⊥) → height u ≡ count g → Placed u
    final : (Ends es Entry u → ⊥) → Ends es Exit u → height u ≡ count g + 1 + low g u → Placed u

  placed : (u : ℕ) → u < count g → Placed u
  unfolding height
  placed u h = elim (cases_Bool (end_group Entry (count g) g.delays u)) [
    | inl t ↦ first ((at_end tabled Entry u h).0 t) (cond-true (end_group Entry (count g) g.delays u) _ _ t)
    | inr f ↦
        let never : Ends es Entry u → ⊥ = λ l. both_ways (end_group Entry (count g) g.delays u) f ((at_end tabled Entry u h).1 l) in
        let here = cond-false (end_group Entry (count g) g.delays u) (low g u) (cond (end_group Exit (count g) g.delays u) (count g + 1 + low g u) (count g)) f in
        elim (cases_Bool (end_group Exit (count g) g.delays u)) [
          | inl t ↦ final never ((at_end tabled Exit u h).0 t) (here ∙ cond-true (end_group Exit (count g) g.delays u) _ _ t)
          | inr e ↦ middle never (λ l. both_ways (end_group Exit (count g) g.delays u) e ((at_end tabled Exit u h).1 l)) (here ∙ cond-false (end_group Exit (count g) g.delays u) _ _ e)
        ]
  ]

  reaches_upward : (u w : ℕ) → u < count g → w < count g → Reaches es u w → height u ≤ height w
  reaches_upward u w hu hw l = go (placed u hu) (placed w hw)
    where
      into : Ends es Entry w → Group es w u
      into entry = into_entry entry l.1 (tabled.self w hw, tabled.self w hw)

      out : Ends es Exit u → Group es u w
      out exit = out_of_exit exit l.1 (tabled.self u hu, tabled.self u hu)

      low_under : low g u < count g
      low_under = opener_below (groups_classes tabled) u hu

      go : Placed u → Placed w → height u ≤ height w
      go (first lu eu) (first lw ew) = omega (arith, opener_equal (groups_classes tabled) w u hw hu (into lw))
      go (first lu eu) (middle nw xw ew) = omega (arith, low_under)
      go (first lu eu) (final nw xw ew) = omega (arith, low_under)
      go (middle nu xu eu) (first lw ew) = absurd (nu (ends_shared es Entry w u (into lw) lw))
      go (middle nu xu eu) (middle nw xw ew) = omega arith
      go (middle nu xu eu) (final nw xw ew) = omega arith
      go (final nu xu eu) (first lw ew) = absurd (nu (ends_shared es Entry w u (into lw) lw))
      go (final nu xu eu) (middle nw xw ew) = absurd (xw (ends_shared es Exit u w (out xu) xu))
      go (final nu xu eu) (final nw xw ew) = omega (arith, opener_equal (groups_classes tabled) u w hu hw (out xu))

  keeps : (e : Edge) → In e es → height e.sender ≤ height e.receiver
  keeps e i = let ends = known.small.within e i in reaches_upward e.sender e.receiver ends.0 ends.1 (e.delay, last i)

  entry_height : (p u : ℕ) → Head g es Entry p u → height (stand g u) ≡ u
  entry_height p u h = go (placed (stand g u) (stand_under tabled h))
    where
      go : Placed (stand g u) → height (stand g u) ≡ u
      go (first l e) = e ∙ stand_low tabled h
      go (middle n x e) = absurd (n (stand_ends tabled h))
      go (final n x e) = absurd (n (stand_ends tabled h))

  exit_height : (p u : ℕ) → Wants g es p → Head g es Exit p u → height (stand g u) ≡ count g + 1 + u
  exit_height p u s h = go (placed (stand g u) (stand_under tabled h))
    where
      go : Placed (stand g u) → height (stand g u) ≡ count g + 1 + u
      go (first l e) = absurd (ends_apart tabled p u s h.under h.joined (ends_shared es Entry (stand g u) u (group_back (stand_mate tabled h)) l) h.ends)
      go (middle n x e) = absurd (x (stand_ends tabled h))
      go (final n x e) = omega (arith, stand_low tabled h)

  kind_rises : (lead p : ℕ) → 1 ≤ lead → p < count g → Wants g es p → (b : Link) → Kind g lead p b → b.delay ≡ 0 → height b.sender < height b.receiver
  kind_rises lead p l hp s b (inl (u, w, next, e)) z =
      let has = next_has u w (groups_of g Entry p) next in
      let a = entry_height p u (groups_head tabled Entry p hp u has.0) in
      let c = entry_height p w (groups_head tabled Entry p hp w has.1) in
      subst (λ (x : Link). height x.sender < height x.receiver) (sym e) (omega (arith, next_rises u w (groups_of g Entry p) (groups_rising tabled Entry p hp) next))
  kind_rises lead p l hp s b (inr (inl (u, w, next, e))) z =
      let has = next_has u w (groups_of g Exit p) next in
      let a = exit_height p u s (groups_head tabled Exit p hp u has.0) in
      let c = exit_height p w s (groups_head tabled Exit p hp w has.1) in
      subst (λ (x : Link). height x.sender < height x.receiver) (sym e) (omega (arith, next_rises u w (groups_of g Exit p) (groups_rising tabled Exit p hp) next))
  kind_rises lead p l hp s b (inr (inr e)) z = absurd (omega (arith, ap (λ (x : Link). x.delay) e))

  rises : (lead : ℕ) → 1 ≤ lead → (e : Edge) → In e (back_edges g lead) → e.delay ≡ 0 → height e.sender < height e.receiver
  rises lead l e i z =
      let (b, h, q) = in_map (backs_among g lead (range_with_len 0 (count g))) e i in
      let (p, k, t, j) = backs_back g lead (range_with_len 0 (count g)) b h in
      let hp : p < count g = omega (arith, counting_has 0 (count g) p k) in
      subst (λ (x : Edge). height x.sender < height x.receiver) (sym q)
      (kind_rises lead p l hp ((at_wants tabled p hp).0 t) b (part_kind g lead p b j) (sym (ap (λ (x : Edge). x.delay) q) ∙ z))

  module _ (lead : ℕ) (l : 1 ≤ lead) where
    -- the back links create no delay-free cycle
    pub backs_live : Live es → Live (with_backs g lead es)
    backs_live live = live_with es (back_edges g lead) height keeps (rises lead l) live
