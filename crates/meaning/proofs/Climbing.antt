-- From every actor the lowest actor of an exit group is reached, and it is reached from that of an entry group.
use Rattle.std.proofs.Common.{ℕ, ◌<◌, List}
use Rattle.records.specs.declared.tables.Edge.{Edge}
use Rattle.planning.specs.declared.End.{End}
use Rattle.planning.specs.declared.End.TheVariants.{Entry, Exit}
use Rattle.planning.specs.Backs.{Ground, count}
use Rattle.meaning.specs.Components.{Reaches, Group, Joined, on as joined-on}
use Rattle.meaning.proofs.EndGroups.{entry_reaching, exit_reached}
use Rattle.meaning.proofs.Groups.{reaches_on}
use Rattle.meaning.proofs.Joins.{reaches_joins, joined_back}
use Rattle.meaning.proofs.Grounds.{Tabled, Head, Ends, ends_shared}
use Rattle.meaning.proofs.Openers.{opener_below, opener_shares, opener_lowest, groups_classes}
use Rattle.meaning.proofs.Leaders.{low}

-- towards the entries against the paths, towards the exits along them
abbrev pub Way : List Edge → End → ℕ → ℕ → Type 0
Way es Entry u w = Reaches es w u
Way es Exit u w = Reaches es u w

way_on : (es : List Edge) (end : End) (u w v : ℕ) → Way es end u w → Group es w v → Way es end u v
way_on es Entry u w v a m = reaches_on m.1 a
way_on es Exit u w v a m = reaches_on a m.0

way_joins : (es : List Edge) (end : End) (u v : ℕ) → Way es end u v → Joined es u v
way_joins es Entry u v l = joined_back (reaches_joins l)
way_joins es Exit u v l = reaches_joins l

module _ {g : Ground} {es : List Edge} (tabled : Tabled g es) where
  to_end : (end : End) (u : ℕ) → u < count g → (x : ℕ) × (x < count g) × Way es end u x × Ends es end x
  to_end Entry u h = entry_reaching tabled u h
  to_end Exit u h = exit_reached tabled u h

  -- a way towards each end leads from u to the lowest actor of a group there
  pub to_head : (end : End) (p u : ℕ) → u < count g → Joined es p u → (h : ℕ) × Head g es end p h × Way es end u h
  to_head end p u hu j =
      let (x, hx, way, ends) = to_end end u hu in
      let m = opener_shares (groups_classes tabled) x hx in
      let on = way_on es end u x (low g x) way m in (
        low g x,
        record {
          under = opener_below (groups_classes tabled) x hx;
          joined = joined-on j (way_joins es end u (low g x) on);
          lowest = opener_lowest (groups_classes tabled) x hx;
          ends = ends_shared es end x (low g x) m ends;
        },
        on,
      )
