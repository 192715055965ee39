-- Back links join actors of the drawing, with delay 0 or the lead, and are marked as back links.
use Rattle.std.proofs.Common.{◌≡◌, ℕ, ◌<◌, ◌≤◌, List, length, get_or, take, drop, refl, subst, arith}
use Rattle.std.proofs.lemmas.List.{take-append-drop}
use Rattle.records.specs.declared.tables.Edge.{Edge}
use Rattle.records.specs.declared.tables.Link.{Link}
use Rattle.records.specs.Tables.{no_link}
use Rattle.planning.specs.Backs.{Ground, count, backs}
use Rattle.meaning.proofs.Grounds.{Tabled}
use Rattle.meaning.proofs.Rising.{Has, has_at, has_left}
use Rattle.meaning.proofs.Leaders.{stand_under}
use Rattle.meaning.proofs.BackEdges.{all_backs}
use Rattle.meaning.proofs.Told.{Told, enters, leaves, closes, backs_told}

abbrev pub FineLink : ℕ → Link → Type 0
FineLink n l = (l.sender < n) × (l.receiver < n) × (l.delay ≤ 1000)

module _ {g : Ground} {es : List Edge} (tabled : Tabled g es) (lead : ℕ) (short : lead ≤ 1000) where
  told_fine : (p : ℕ) (b : Link) → Told tabled lead p b → FineLink (count g) b × (b.mark ≡ 3)
  told_fine p _ (enters u w n hu hw l) = ((stand_under tabled hu, stand_under tabled hw, omega arith), refl)
  told_fine p _ (leaves u w n hu hw l) = ((stand_under tabled hu, stand_under tabled hw, omega arith), refl)
  told_fine p _ (closes hu hw) = ((stand_under tabled hu, stand_under tabled hw, short), refl)

  pub backs_fine : (k : ℕ) → k < length (backs g lead) → FineLink (count g) (get_or (backs g lead) k no_link) × ((get_or (backs g lead) k no_link).mark ≡ 3)
  unfolding backs
  backs_fine k h =
      let b = get_or (backs g lead) k no_link in
      let among = subst (Has b) (take-append-drop 15 (all_backs g lead)) (has_left b (take 15 (all_backs g lead)) (drop 15 (all_backs g lead)) (has_at no_link (backs g lead) k h)) in
      let (p, _, _, t) = backs_told tabled lead b among in
      told_fine p b t
