-- With the back links each part is one group.
use Rattle.std.proofs.Common.{◌≡◌, ℕ, ◌<◌, true, List, [], ◌∷◌, sym, refl, subst, inl, inr, arith}
use Rattle.std.specs.List.{range_with_len}
use Rattle.records.specs.declared.tables.Edge.{Edge}
use Rattle.records.specs.declared.tables.Link.{Link}
use Rattle.records.specs.Tables.{link_edge}
use Rattle.waits.specs.Events.{last}
use Rattle.waits.proofs.Paths.{path_over_more}
use Rattle.planning.specs.declared.End.{End}
use Rattle.planning.specs.declared.End.TheVariants.{Entry, Exit}
use Rattle.planning.specs.Groups.{same_part}
use Rattle.planning.specs.Backs.{Ground, count, stand, groups_of, backs_among, back_link, closing, first_or, last_or, wants_backs}
use Rattle.meaning.specs.Components.{Reaches, Joined, on as joined-on}
use Rattle.meaning.proofs.Known.{Known}
use Rattle.meaning.proofs.Joins.{joined_back}
use Rattle.meaning.proofs.Groups.{reaches_on}
use Rattle.meaning.proofs.Grounds.{Tabled, known_tabled, part, at_part}
use Rattle.meaning.proofs.Openers.{opener, opener_below, opener_shares, opener_lowest, parts_classes}
use Rattle.meaning.proofs.Rising.{Has, has_counting, Next}
use Rattle.meaning.proofs.Leaders.{stand_under, stand_mate, groups_head, head_groups}
use Rattle.meaning.proofs.LinkKinds.{map_in, Kind, kind_part, back_backs}
use Rattle.meaning.proofs.Parts.{one_or_wants}
use Rattle.meaning.proofs.Climbing.{to_head}
use Rattle.meaning.proofs.BackEdges.{back_edges, with_backs}
use Rattle.meaning.proofs.Chosen.{in_left, in_right}

-- where each of us is related to itself and to the next one
module _ (R : ℕ → ℕ → Type 0) (goes : (u w v : ℕ) → R u w → R w v → R u v) where
  to_last : (p : ℕ) (us : List ℕ) → ((u : ℕ) → Has u us → R u u) → ((u w : ℕ) → Next u w us → R u w) → (u : ℕ) → Has u us → R u (last_or p us)
  to_last p [] same next u h = absurd h
  to_last p (x ∷ []) same next u (inl e) = subst (λ y. R y x) (sym e) (same x (inl refl))
  to_last p (x ∷ []) same next u (inr h) = absurd h
  to_last p (x ∷ y ∷ us) same next u (inl e) =
      subst (λ z. R z (last_or x (y ∷ us))) (sym e)
      (goes x y (last_or x (y ∷ us)) (next x y (inl (refl, refl))) (to_last x (y ∷ us) (λ u h. same u (inr h)) (λ u w h. next u w (inr h)) y (inl refl)))
  to_last p (x ∷ y ∷ us) same next u (inr h) = to_last x (y ∷ us) (λ u h. same u (inr h)) (λ u w h. next u w (inr h)) u h

  from_first : (p : ℕ) (us : List ℕ) → ((u : ℕ) → Has u us → R u u) → ((u w : ℕ) → Next u w us → R u w) → (u : ℕ) → Has u us → R (first_or p us) u
  from_first p [] same next u h = absurd h
  from_first p (x ∷ us) same next u (inl e) = subst (λ y. R x y) (sym e) (same x (inl refl))
  from_first p (x ∷ []) same next u (inr h) = absurd h
  from_first p (x ∷ y ∷ us) same next u (inr h) =
      goes x y u (next x y (inl (refl, refl))) (from_first x (y ∷ us) (λ u h. same u (inr h)) (λ u w h. next u w (inr h)) u h)

module _ {g : Ground} {es : List Edge} (known : Known g es) (lead : ℕ) where
  abbrev tabled : Tabled g es
  tabled = known_tabled known

  pub reaches_more : {u v : ℕ} → Reaches es u v → Reaches (with_backs g lead es) u v
  reaches_more l = (l.0, path_over_more (λ e h. in_left e es (back_edges g lead) h) l.1)

  module _ (p : ℕ) (hp : p < count g) (wants : wants_backs g p ≡ true) where
    kind_reaches : (b : Link) → Kind g lead p b → Reaches (with_backs g lead es) b.sender b.receiver
    kind_reaches b k = (
      b.delay,
      last (in_right (link_edge b) es (back_edges g lead)
          (map_in (backs_among g lead (range_with_len 0 (count g))) b
          (back_backs g lead (range_with_len 0 (count g)) b (p, has_counting 0 (count g) p (omega arith) (omega arith), wants, kind_part g lead p b k)))),
    )

    -- the actors that stand for the groups of u and w reach one another
    abbrev Stands : ℕ → ℕ → Type 0
    Stands u w = Reaches (with_backs g lead es) (stand g u) (stand g w)

    stands_same : (end : End) (u : ℕ) → Has u (groups_of g end p) → Stands u u
    stands_same end u h = reaches_more (tabled.self (stand g u) (stand_under tabled (groups_head tabled end p hp u h)))

    stands_next : (end : End) (u w : ℕ) → Next u w (groups_of g end p) → Stands u w
    stands_next Entry u w h = kind_reaches (back_link (stand g u) (stand g w) 0) (inl (u, w, h, refl))
    stands_next Exit u w h = kind_reaches (back_link (stand g u) (stand g w) 0) (inr (inl (u, w, h, refl)))

    -- from every actor of the part by way of the last exit group and the first entry group to every other
    around : (u v : ℕ) → u < count g → v < count g → Joined es p u → Joined es p v → Reaches (with_backs g lead es) u v
    around u v hu hv ju jv =
        let (x, hx, out) = to_head tabled Exit p u hu ju in
        let (y, hy, into) = to_head tabled Entry p v hv jv in
        let a : Reaches (with_backs g lead es) u (stand g x) = reaches_more (reaches_on out (stand_mate tabled hx).0) in
        let b : Stands x (last_or p (groups_of g Exit p)) =
        to_last Stands (λ u w v a b. reaches_on a b) p (groups_of g Exit p) (stands_same Exit) (stands_next Exit) x (head_groups tabled Exit p hp x hx) in
        let c : Stands (last_or p (groups_of g Exit p)) (first_or p (groups_of g Entry p)) = kind_reaches (closing g lead p) (inr (inr refl)) in
        let d : Stands (first_or p (groups_of g Entry p)) y =
        from_first Stands (λ u w v a b. reaches_on a b) p (groups_of g Entry p) (stands_same Entry) (stands_next Entry) y (head_groups tabled Entry p hp y hy) in
        let f : Reaches (with_backs g lead es) (stand g y) v = reaches_more (reaches_on (stand_mate tabled hy).1 into) in
        reaches_on a (reaches_on b (reaches_on c (reaches_on d f)))

  -- with the back links some path leads from each actor of a part to every other
  pub backs_whole : (u v : ℕ) → u < count g → v < count g → same_part (count g) g.joined u v ≡ true → Reaches (with_backs g lead es) u v
  backs_whole u v hu hv t =
      let classes = parts_classes tabled in
      let p = opener (count g) (part g) u in
      let hp = opener_below classes u hu in
      let ju = joined_back (opener_shares classes u hu) in
      let jv = joined-on ju ((at_part tabled u v hu hv).0 t) in
      elim (one_or_wants tabled p hp (opener_lowest classes u hu)) [
        | inl mates ↦ reaches_more (reaches_on (mates u hu ju).1 (mates v hv jv).0)
        | inr wants ↦ around p hp wants u v hu hv ju jv
      ]
