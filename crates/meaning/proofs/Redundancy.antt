-- The dropping test finds a path exactly where there is one.
use Rattle.std.proofs.Common.{◌≡◌, ℕ, ◌<◌, ◌≤◌, true, List, ◌++◌, length, inl, inr, arith}
use Rattle.std.proofs.lemmas.Bool.{leb-true, le-leb}
use Rattle.records.specs.declared.tables.Actor.{Actor}
use Rattle.records.specs.declared.tables.Edge.{Edge}
use Rattle.waits.specs.Events.{Within, Path}
use Rattle.waits.proofs.Paths.{in-++}
use Rattle.planning.specs.Edges.{orders, without}
use Rattle.planning.specs.Marks.{redundant}
use Rattle.meaning.proofs.Delays.{least, least_low, least_attained}
use Rattle.meaning.proofs.Chosen.{in_left, in_right, without_part}
use Rattle.meaning.proofs.Reaching.{Small}

module _ (actors : List Actor) (links : List Edge) (small : Small (length actors) (orders actors ++ links)) (i : ℕ) (e : Edge)
    (ends : (e.sender < length actors) × (e.receiver < length actors)) (short : e.delay ≤ 1000) where
  others_within : Within (length actors) (orders actors ++ without i e 0 links)
  others_within x h = elim (in-++ x (orders actors) (without i e 0 links) h) [
    | inl k ↦ small.within x (in_left x (orders actors) links k)
    | inr k ↦ small.within x (in_right x (orders actors) links (without_part i e links x k))
  ]

  pub redundant_path : redundant actors links i e ≡ true → (t : ℕ) × (t ≤ e.delay) × Path (orders actors ++ without i e 0 links) e.sender e.receiver t
  unfolding redundant
  redundant_path t =
      let low = leb-true (least (length actors) (orders actors ++ without i e 0 links) others_within e.sender e.receiver) e.delay t in (
        least (length actors) (orders actors ++ without i e 0 links) others_within e.sender e.receiver,
        low,
        least_attained (length actors) (orders actors ++ without i e 0 links) others_within e.sender e.receiver ends.0 ends.1 (omega arith),
      )

  pub path_redundant : (t : ℕ) → t ≤ e.delay → Path (orders actors ++ without i e 0 links) e.sender e.receiver t → redundant actors links i e ≡ true
  unfolding redundant
  path_redundant t le p =
      le-leb (least (length actors) (orders actors ++ without i e 0 links) others_within e.sender e.receiver) e.delay
      (omega (arith, least_low (length actors) (orders actors ++ without i e 0 links) others_within ends.0 ends.1 p))
