-- The yes/no table of delay-free edges tells which closed paths have total delay 0.
use Rattle.std.proofs.Common.{◌≡◌, ℕ, ◌*◌, ◌<◌, Bool, true, false, ◌||◌, List, [], ◌∷◌, replicate, sym, refl, ap, ◌∙◌, subst, ⊎_elim, arith}
use Rattle.std.proofs.lemmas.List.{length-replicate}
use Rattle.std.proofs.lemmas.Bool.{and_parts, and_from, eqb-true, eq-eqb, both_ways}
use Rattle.records.specs.declared.tables.Edge.{Edge}
use Rattle.records.specs.Tables.{edge}
use Rattle.waits.specs.Events.{In, Within, Path, last, step}
use Rattle.waits.proofs.Paths.{path_joined}
use Rattle.paths.specs.Closure.{entry}
use Rattle.paths.specs.Models.{reach_ops, reach_laws}
use Rattle.paths.specs.Walks.{walk_value, Below}
use Rattle.paths.specs.declared.reach.Reach.{Reach}
use Rattle.paths.proofs.Bests.{chosen}
use Rattle.planning.specs.Tables.{paths_over, delay_free}
use Rattle.meaning.proofs.Laid.{edge_table, edge_loses, none_or_edge}

-- what loses to x is no better than x
yes_if : (x y : Reach) → reach_ops.choose x y ≡ x → y.yes ≡ true → x.yes ≡ true
yes_if x y e t = sym (ap (λ (z : Reach). z.yes) e) ∙ ap (λ b. x.yes || b) t ∙ or_true x.yes
  where
    or_true : (b : Bool) → (b || true) ≡ true
    or_true true = refl
    or_true false = refl

module _ (n : ℕ) (es : List Edge) (within : Within n es) where
  abbrev single : ℕ → ℕ → Reach
  single u v = entry reach_ops (edge_table reach_laws n es) n u v

  edge_yes : (u v d : ℕ) → In (edge u v d) es → d ≡ 0 → (single u v).yes ≡ true
  edge_yes u v d i z =
      yes_if (single u v) (reach_ops.edge d)
      (edge_loses reach_laws n (replicate (n * n) reach_ops.none) es (omega (arith, length-replicate (n * n) reach_ops.none)) within (edge u v d) i)
      (eq-eqb d 0 z)

  along : {u v t : ℕ} → Path es u v t → t ≡ 0 → (xs : List ℕ) × Below n xs × ((walk_value reach_ops single u xs v).yes ≡ true)
  along {u} {v} {t} (last i) z = ([], tt, edge_yes u v t i z)
  along {u} {v} (step {w = w} d i p) z =
      let rest = along p (omega arith) in
      (w ∷ rest.0, ((within (edge u w d) i).1, rest.1), and_from (single u w).yes (walk_value reach_ops single w rest.0 v).yes (edge_yes u w d i (omega arith)) rest.2)

  one_edge : (u v : ℕ) → u < n → v < n → (single u v).yes ≡ true → Path es u v 0
  one_edge u v hu hv t =
      ⊎_elim
      (λ (p : single u v ≡ reach_ops.none). absurd (both_ways (single u v).yes (ap (λ (x : Reach). x.yes) p) t))
      (λ (r : (d : ℕ) × In (edge u v d) es × (single u v ≡ reach_ops.edge d)).
      let z = eqb-true r.0 0 (sym (ap (λ (x : Reach). x.yes) r.2) ∙ t) in
      subst (λ k. Path es u v k) z (last r.1))
      (none_or_edge reach_laws n es within u v hu hv)

  of_walk : (u v : ℕ) (xs : List ℕ) → u < n → v < n → Below n xs → (walk_value reach_ops single u xs v).yes ≡ true → Path es u v 0
  of_walk u v [] hu hv b t = one_edge u v hu hv t
  of_walk u v (x ∷ xs) hu hv b t =
      let two = and_parts (single u x).yes (walk_value reach_ops single x xs v).yes t in
      path_joined (one_edge u x hu b.0 two.0) (of_walk x v xs b.0 hv b.1 two.1)

  -- whether delay-free edges lead from u to v, by the table
  abbrev pub free : ℕ → ℕ → Bool
  free u v = (entry reach_ops (delay_free n es) n u v).yes

  pub free_if_path : (u v : ℕ) → u < n → v < n → Path es u v 0 → free u v ≡ true
  unfolding paths_over
  free_if_path u v hu hv p =
      let walk = along p refl in
      yes_if (entry reach_ops (delay_free n es) n u v) (walk_value reach_ops single u walk.0 v) ((chosen reach_laws (edge_table reach_laws n es) n u v hu hv).wins walk.0 walk.1) walk.2

  pub path_if_free : (u v : ℕ) → u < n → v < n → free u v ≡ true → Path es u v 0
  unfolding paths_over
  path_if_free u v hu hv t =
      let c = (chosen reach_laws (edge_table reach_laws n es) n u v hu hv).attained in
      of_walk u v c.0 hu hv c.1 (ap (λ (x : Reach). x.yes) c.2 ∙ t)
