-- Who shares a part, by the yes/no table: exactly those joined when direction is ignored.
use Rattle.std.proofs.Common.{◌≡◌, ℕ, ◌*◌, ◌<◌, true, List, [], ◌∷◌, replicate, sym, refl, ap, ◌∙◌, subst, inl, inr}
use Rattle.records.specs.declared.tables.Edge.{Edge}
use Rattle.waits.specs.Events.{Within, Path}
use Rattle.paths.specs.Closure.{entry, closed}
use Rattle.paths.specs.Models.{reach_ops}
use Rattle.planning.specs.Groups.{same_part}
use Rattle.planning.specs.Tables.{paths_over, parts, delay_free}
use Rattle.meaning.proofs.Laid.{both_ways, laid_loose}
use Rattle.meaning.proofs.Free.{free_if_path, path_if_free}

pub both_ways_within : (n : ℕ) (es : List Edge) → Within n es → Within n (both_ways es)
both_ways_within n [] w e i = absurd i
both_ways_within n (f ∷ es) w e (inl p) = subst (λ x. (x.sender < n) × (x.receiver < n)) (sym p) (w f (inl refl))
both_ways_within n (f ∷ es) w e (inr (inl p)) = let ends = w f (inl refl) in subst (λ x. (x.sender < n) × (x.receiver < n)) (sym p) (ends.1, ends.0)
both_ways_within n (f ∷ es) w e (inr (inr i)) = both_ways_within n es (λ g j. w g (inr j)) e i

pub parts_free : (n : ℕ) (es : List Edge) → parts n es ≡ delay_free n (both_ways es)
unfolding paths_over
parts_free n es = ap (closed reach_ops n) (laid_loose reach_ops n (replicate (n * n) reach_ops.none) es)

module _ (n : ℕ) (es : List Edge) (within : Within n es) (u v : ℕ) (hu : u < n) (hv : v < n) where
  pub joined_path : same_part n (parts n es) u v ≡ true → Path (both_ways es) u v 0
  joined_path t =
      path_if_free n (both_ways es) (both_ways_within n es within) u v hu hv
      (ap (λ cells. (entry reach_ops cells n u v).yes) (sym (parts_free n es)) ∙ t)

  pub path_joined_part : Path (both_ways es) u v 0 → same_part n (parts n es) u v ≡ true
  path_joined_part p =
      ap (λ cells. (entry reach_ops cells n u v).yes) (parts_free n es)
      ∙ free_if_path n (both_ways es) (both_ways_within n es within) u v hu hv p
