-- A choice of links enforces the wait of a link exactly if it covers it.
use Rattle.std.proofs.Common.{ℕ, ◌<◌, Bool, List, ◌++◌, length}
use Rattle.records.specs.declared.tables.Edge.{Edge}
use Rattle.waits.specs.Events.{Within, Live, Path, Enforces, place, chosen}
use Rattle.waits.proofs.Enforced.{enforced_has_path}
use Rattle.waits.proofs.Paths.{path_over_more}
use Rattle.waits.proofs.Waits.{waits_along_path}
use Rattle.meaning.proofs.Chosen.{in_left, in_right, in_more, in_place, chosen_part}
use Rattle.meaning.proofs.Covers.{Covers}

pub covered_enforced : (es : List Edge) (e : Edge) → Covers es e → Enforces es e
covered_enforced es e (t, l, p) = waits_along_path p e.delay l

module _ (n : ℕ) (O L : List Edge) (within : Within n (O ++ L)) (live : Live (O ++ L)) (round : (x : ℕ) → x < n → Path O x x 1) (C : ℕ → Bool) where
  pub enforced_covered : (i : ℕ) → i < length L → Enforces (O ++ chosen C L) (place L i) → Covers (O ++ chosen C L) (place L i)
  enforced_covered i hi all =
      let e = place L i in
      enforced_has_path (O ++ chosen C L) (λ x p. live x (path_over_more (in_more O (chosen C L) L (chosen_part C L)) p)) e.sender e.receiver e.delay
      (path_over_more (λ f h. in_left f O (chosen C L) h) (round e.sender (within e (in_right e O L (in_place L i hi))).0))
      all
