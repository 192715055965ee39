-- The edges of an accepted drawing with its back links.
use Rattle.std.proofs.Common.{◌≡◌, ℕ, ◌-◌, ◌<◌, ◌≤◌, length, get_or, take, Ok, sym, refl, subst, ⊎_elim, arith}
use Rattle.std.proofs.lemmas.List.{get_or_append_left, get_or-append_right, length-append}
use Rattle.std.proofs.lemmas.Bool.{cases_lt}
use Rattle.records.specs.Tables.{no_link}
use Rattle.planning.specs.Planning.{Given, tables_check, edges_with, back_links, all_links}
use Rattle.meaning.proofs.BackEnds.{FineLink, backs_fine}
use Rattle.meaning.proofs.Drawn.{passed, small_with, base_small}
use Rattle.meaning.proofs.Grounds.{known_tabled}
use Rattle.meaning.proofs.Known.{given_known}
use Rattle.meaning.proofs.Reaching.{Small}

module _ (d : Given) (ok : tables_check d ≡ Ok tt) where
  pub all_fine : (k : ℕ) → k < length (all_links d) → FineLink (length d.actors) (get_or (all_links d) k no_link)
  all_fine k h =
      let given = take d.given d.links in
      let p = passed d ok in
      ⊎_elim
      (λ (l : k < length given).
      subst (FineLink (length d.actors)) (sym (get_or_append_left given (back_links d) no_link k l)) ((p.ends k l).0, (p.ends k l).1, p.short k l))
      (λ (l : length given ≤ k).
      subst (FineLink (length d.actors)) (sym (get_or-append_right given (back_links d) (length given) k no_link refl l))
      (backs_fine (known_tabled (given_known d (base_small d ok))) d.lead p.lead_high (k - length given) (omega (arith, length-append given (back_links d)))).0)
      (cases_lt k (length given))

  pub all_small : Small (length d.actors) (edges_with d (all_links d))
  all_small = small_with d.actors (all_links d) (passed d ok).few all_fine
