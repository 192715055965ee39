-- The lowest actors of the entry and exit groups of a part, and the actors that stand for those groups.
use Rattle.std.proofs.Common.{◌≡◌, ℕ, ◌<◌, List, [], ◌∷◌, sym, refl, ◌∙◌, subst}
use Rattle.std.specs.List.{range_with_len}
use Rattle.records.specs.declared.tables.Edge.{Edge}
use Rattle.planning.specs.declared.End.{End}
use Rattle.planning.specs.Groups.{stand_in}
use Rattle.planning.specs.Backs.{Ground, count, heads, heads_among, groups_of, stand}
use Rattle.meaning.specs.Components.{Group, Lowest, Stands, Rises, Rising}
use Rattle.meaning.proofs.Grounds.{Tabled, Head, Ends, group, at_head, ends_shared}
use Rattle.meaning.proofs.Openers.{opener, opener_equal, lowest_opener, groups_classes}
use Rattle.meaning.proofs.Picked.{picked, picked_rising}
use Rattle.meaning.proofs.StandIns.{stand_in_stands}
use Rattle.meaning.proofs.Rising.{Has, has_among, among_has}

heads_picked : (g : Ground) (end : End) (p : ℕ) (us : List ℕ) → heads_among g end p us ≡ picked (heads g end p) us
heads_picked g end p [] = refl
heads_picked g end p (u ∷ us) = rw (heads_picked g end p us)

-- the lowest actor of the group of u
abbrev pub low : Ground → ℕ → ℕ
low g u = opener (count g) (group g) u

module _ {g : Ground} {es : List Edge} (tabled : Tabled g es) where
  pub heads_rising : (end : End) (p : ℕ) → p < count g → Rising (count g) (Head g es end p) (groups_of g end p)
  heads_rising end p hp = rw (heads_picked g end p (range_with_len 0 (count g))) (picked_rising (count g) (heads g end p) (Head g es end p) (λ u hu. at_head tabled end p u hp hu))

  module _ (end : End) (p : ℕ) (hp : p < count g) where
    pub groups_head : (u : ℕ) → Has u (groups_of g end p) → Head g es end p u
    groups_head u h = ((heads_rising end p hp).each u (has_among u (groups_of g end p) h)).1

    pub head_groups : (u : ℕ) → Head g es end p u → Has u (groups_of g end p)
    head_groups u h = among_has u (groups_of g end p) ((heads_rising end p hp).all u h.under h)

    pub groups_rising : Rises (groups_of g end p)
    groups_rising = (heads_rising end p hp).rises

  pub stand_stands : (u : ℕ) → u < count g → Lowest (count g) (Group es) u → Stands g.actors es u (stand g u)
  stand_stands u h least =
      subst (λ c. Stands g.actors es u (stand_in g.actors (count g) c u)) (sym tabled.delays) (stand_in_stands g.actors es tabled.small u h (tabled.self u h) least)

  module _ {end : End} {p u : ℕ} (h : Head g es end p u) where
    pub stand_under : stand g u < count g
    stand_under = (stand_stands u h.under h.lowest).below

    -- the actor that stands for a group is in it
    pub stand_mate : Group es u (stand g u)
    stand_mate = (stand_stands u h.under h.lowest).inside

    pub head_low : low g u ≡ u
    head_low = lowest_opener (groups_classes tabled) u h.under h.lowest

    -- the lowest actor of the group that the actor stands for is u
    pub stand_low : low g (stand g u) ≡ u
    stand_low = sym (opener_equal (groups_classes tabled) u (stand g u) h.under stand_under stand_mate) ∙ head_low

    pub stand_ends : Ends es end (stand g u)
    stand_ends = ends_shared es end u (stand g u) stand_mate h.ends

  -- heads whose groups have the same stand-in are the same
  pub heads_same : {end end' : End} {p q u v : ℕ} → Head g es end p u → Head g es end' q v → Group es u (stand g v) → u ≡ v
  heads_same {u = u} {v = v} h k m = sym (head_low h) ∙ opener_equal (groups_classes tabled) u (stand g v) h.under (stand_under k) m ∙ stand_low k
