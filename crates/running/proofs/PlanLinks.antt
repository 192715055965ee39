-- The links of a plan as a run reads them: their ends, marks and cells.
use Rattle.std.proofs.Common.{◌≡◌, ℕ, ◌+◌, ◌-◌, ◌<◌, ◌≤◌, true, false, ◌⊎◌, length, get_or, take, Ok, sym, ap, ◌∙◌, subst, inl, inr, ⊎_elim, arith}
use Rattle.std.proofs.lemmas.List.{length-map, length-take-le, get_or-map}
use Rattle.std.proofs.lemmas.Bool.{cases_Bool, cases_eq, cases_lt, cond-true, cond-false, ne_eqb}
use Rattle.records.specs.Tables.{no_link, edge, link_edge, processor_of}
use Rattle.waits.specs.Events.{In, Path, last, place}
use Rattle.waits.proofs.Paths.{path_joined}
use Rattle.waits.proofs.Shorter.{walk_path}
use Rattle.planning.specs.Edges.{orders}
use Rattle.planning.specs.Marks.{redundant}
use Rattle.planning.specs.Planning.{Given, Totals, tables_check, edges_with, all_links, plan_links, plan_totals, planned}
use Rattle.meaning.specs.Promises.{given_edges, plan_edges, mark_at, size_at, Cross, Crossing, PlanMeans}
use Rattle.meaning.proofs.Chosen.{in_right, in_place}
use Rattle.meaning.proofs.Drawn.{passed}
use Rattle.meaning.proofs.FinalMarks.{all_long, given_mark}
use Rattle.meaning.proofs.Planned.{all_small}
use Rattle.meaning.proofs.Promised.{passes_tables, totals, promise}

module _ (d : Given) (t : Totals) (e : (planned d).answer ≡ Ok t) where
  pub ok : tables_check d ≡ Ok tt
  ok = passes_tables d t e

  pub means : PlanMeans d
  means = (promise d).means t e

  pub edges_long : length (plan_links d) ≡ length (plan_edges d)
  edges_long = sym (length-map (plan_links d) link_edge) ∙ ap length ((promise d).found t e).edges

  -- as many as the slip counts
  pub links_long : length (plan_links d) ≡ t.given + t.back
  unfolding plan_totals
  links_long =
      let slip = totals d t e in
      let given = ap (λ x. x.given) slip in
      let back = ap (λ x. x.back) slip in
      omega (arith, edges_long, length-map (all_links d) link_edge, all_long d, length-take-le d.given d.links (omega (arith, (passed d ok).links_room)))

  pub link_place : (i : ℕ) → i < length (plan_links d) → place (plan_edges d) i ≡ link_edge (get_or (plan_links d) i no_link)
  link_place i h = ap (λ es. place es i) (sym ((promise d).found t e).edges) ∙ get_or-map link_edge (plan_links d) i no_link (edge 0 0 0) h

  in_edges : (i : ℕ) → i < length (plan_edges d) → In (place (plan_edges d) i) (edges_with d (all_links d))
  in_edges i h = in_right (place (plan_edges d) i) (orders d.actors) (plan_edges d) (in_place (plan_edges d) i h)

  -- its ends are actors of the drawing
  pub ends : (i : ℕ) → i < length (plan_edges d) → ((place (plan_edges d) i).sender < length d.actors) × ((place (plan_edges d) i).receiver < length d.actors)
  ends i h = (all_small d ok).within (place (plan_edges d) i) (in_edges i h)

  given_long : length (given_edges d) ≡ length (take d.given d.links)
  given_long = length-map (take d.given d.links) link_edge

  pub cross_below : (i : ℕ) → Cross d i → i < length (plan_edges d)
  cross_below i x = omega (arith, x.given, given_long, length-map (all_links d) link_edge, all_long d)

  -- a cross link is dropped or kept
  pub cross_mark : (i : ℕ) → Cross d i → mark_at d i ≤ 1
  cross_mark i x =
      let mark = given_mark d i (omega (arith, x.given, given_long)) ∙ cond-false _ _ _ (ne_eqb _ _ x.across) in
      ⊎_elim
      (λ (r : redundant d.actors (plan_edges d) i (place (plan_edges d) i) ≡ true). omega (arith, mark ∙ cond-true _ 0 1 r))
      (λ (r : redundant d.actors (plan_edges d) i (place (plan_edges d) i) ≡ false). omega (arith, mark ∙ cond-false _ 0 1 r))
      (cases_Bool (redundant d.actors (plan_edges d) i (place (plan_edges d) i)))

  pub crossing_mark : (i : ℕ) → Crossing d i → mark_at d i ≤ 3
  crossing_mark i x =
      ⊎_elim
      (λ (g : i < length (given_edges d)). omega (arith, cross_mark i (record { given = g; across = x.across })))
      (λ (g : length (given_edges d) ≤ i). omega (arith, means.back i g x.below))
      (cases_lt i (length (given_edges d)))

  -- a link that joins two processors has a cell, since no closed path is without delay
  pub cells_some : (i : ℕ) → Crossing d i → 1 ≤ size_at d i
  cells_some i x =
      let it = place (plan_edges d) i in
      let (hu, hv) = ends i x.below in
      ⊎_elim
      (λ (none : size_at d i < 1).
      let back = walk_path (edges_with d (all_links d)) (length d.actors - 1) it.receiver it.sender _ ((means.least it.receiver it.sender hv hu).attained (omega (arith, means.cells i x))) in
      let there : Path (edges_with d (all_links d)) it.sender it.receiver it.delay = last (in_edges i x.below) in
      absurd (means.live it.sender (subst (λ n. Path (edges_with d (all_links d)) it.sender it.sender n) (omega (arith, means.cells i x)) (path_joined there back))))
      (λ (some : 1 ≤ size_at d i). some)
      (cases_lt (size_at d i) 1)

  -- local, or with cells
  pub kinds : (i : ℕ) → i < length (plan_edges d) → (mark_at d i ≡ 2) ⊎ Crossing d i
  kinds i h =
      ⊎_elim
      (λ (same : processor_of d.actors (place (plan_edges d) i).sender ≡ processor_of d.actors (place (plan_edges d) i).receiver). inl (means.local i h same))
      (λ (across : processor_of d.actors (place (plan_edges d) i).sender ≡ processor_of d.actors (place (plan_edges d) i).receiver → ⊥). inr (record { below = h; across = across }))
      (cases_eq (processor_of d.actors (place (plan_edges d) i).sender) (processor_of d.actors (place (plan_edges d) i).receiver))
