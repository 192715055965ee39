-- The least delays of a table are the smallest total delays over paths.
use Rattle.std.proofs.Common.{◌≡◌, ℕ, ◌+◌, ◌-◌, ◌*◌, ◌<◌, ◌≤◌, List, [], ◌∷◌, replicate, ap, subst, ⊎_elim, arith}
use Rattle.std.proofs.lemmas.List.{length-replicate}
use Rattle.records.specs.declared.tables.Edge.{Edge}
use Rattle.records.specs.Tables.{edge}
use Rattle.waits.specs.Events.{In, Within, Path, last, step}
use Rattle.waits.specs.Walks.{Short}
use Rattle.waits.proofs.Paths.{path_joined}
use Rattle.waits.proofs.Shorter.{walk_path, path_few}
use Rattle.paths.specs.Closure.{entry}
use Rattle.paths.specs.Models.{delay_ops, delay_laws}
use Rattle.paths.specs.Walks.{walk_value, Below}
use Rattle.paths.specs.declared.delay.Delay.{Delay}
use Rattle.paths.proofs.Bests.{chosen}
use Rattle.planning.specs.Tables.{paths_over, least_delays}
use Rattle.meaning.proofs.Laid.{edge_table, edge_loses, none_or_edge}

module _ (n : ℕ) (es : List Edge) (within : Within n es) where
  -- the table of single edges
  abbrev single : ℕ → ℕ → Delay
  single u v = entry delay_ops (edge_table delay_laws n es) n u v

  edge_low : (e : Edge) → In e es → (single e.sender e.receiver).value ≤ e.delay
  edge_low e i =
      let wins = ap (λ (x : Delay). x.value) (edge_loses delay_laws n (replicate (n * n) delay_ops.none) es (omega (arith, length-replicate (n * n) delay_ops.none)) within e i) in
      omega arith

  -- the walk along a path
  along : {u v t : ℕ} → Path es u v t → (xs : List ℕ) × Below n xs × ((walk_value delay_ops single u xs v).value ≤ t)
  along {u} {v} {t} (last i) = ([], tt, edge_low (edge u v t) i)
  along {u} {v} (step {w = w} d i p) =
      let rest = along p in
      (w ∷ rest.0, ((within (edge u w d) i).1, rest.1), omega (arith, edge_low (edge u w d) i, rest.2))

  -- the path of a walk
  one_edge : (u v : ℕ) → u < n → v < n → (single u v).value < 4294967295 → Path es u v (single u v).value
  one_edge u v hu hv small =
      ⊎_elim
      (λ (p : single u v ≡ delay_ops.none). let q = ap (λ (x : Delay). x.value) p in absurd (omega arith))
      (λ (r : (d : ℕ) × In (edge u v d) es × (single u v ≡ delay_ops.edge d)).
      let q = ap (λ (x : Delay). x.value) r.2 in
      let e : r.0 ≡ (single u v).value = omega arith in
      subst (λ t. Path es u v t) e (last r.1))
      (none_or_edge delay_laws n es within u v hu hv)

  of_walk : (u v : ℕ) (xs : List ℕ) → u < n → v < n → Below n xs → (walk_value delay_ops single u xs v).value < 4294967295
      → Path es u v (walk_value delay_ops single u xs v).value
  of_walk u v [] hu hv b small = one_edge u v hu hv small
  of_walk u v (x ∷ xs) hu hv b small =
      let e : (single u x).value + (walk_value delay_ops single x xs v).value ≡ (walk_value delay_ops single u (x ∷ xs) v).value = omega arith in
      subst (λ t. Path es u v t) e (path_joined (one_edge u x hu b.0 (omega arith)) (of_walk x v xs b.0 hv b.1 (omega arith)))

  -- the least delay from u to v, by the table
  abbrev pub least : ℕ → ℕ → ℕ
  least u v = (entry delay_ops (least_delays n es) n u v).value

  -- no path has a smaller total delay
  pub least_low : {u v t : ℕ} → u < n → v < n → Path es u v t → least u v ≤ t
  unfolding paths_over
  least_low {u} {v} {t} hu hv p =
      let walk = along p in
      let wins = ap (λ (x : Delay). x.value) ((chosen delay_laws (edge_table delay_laws n es) n u v hu hv).wins walk.0 walk.1) in
      omega (arith, walk.2)

  -- a path has it, where it is a number
  pub least_attained : (u v : ℕ) → u < n → v < n → least u v < 4294967295 → Path es u v (least u v)
  unfolding paths_over
  least_attained u v hu hv small =
      let c = (chosen delay_laws (edge_table delay_laws n es) n u v hu hv).attained in
      let e = ap (λ (x : Delay). x.value) c.2 in
      subst (λ t. Path es u v t) e (of_walk u v c.0 hu hv c.1 (omega arith))

  -- and so has a path of at most n edges
  pub least_short : (u v : ℕ) → u < n → v < n → least u v < 4294967295 → Short es n u v (least u v)
  least_short u v hu hv small =
      let (m, l, i) = path_few es n within u v (least u v) (least_attained u v hu hv small) in
      let e : m ≡ least u v = omega (arith, least_low hu hv (walk_path es (n - 1) u v m i)) in
      subst (λ t. Short es n u v t) e i
