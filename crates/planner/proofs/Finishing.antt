-- From the steps of planning to the plan.
use Rattle.std.proofs.Common.{◌≡◌, ℕ, ◌*◌, List, ◌++◌, map, length, take, drop, sym, ap, ◌∙◌}
use Rattle.records.specs.declared.tables.Actor.{Actor}
use Rattle.records.specs.declared.tables.Link.{Link}
use Rattle.records.specs.Tables.{link_edge}
use Rattle.paths.specs.Models.{delay_ops}
use Rattle.paths.specs.declared.delay.Delay.{Delay}
use Rattle.planning.specs.declared.Sight.TheVariants.{Directed}
use Rattle.planning.specs.Edges.{orders}
use Rattle.planning.specs.Marks.{marked, sized}
use Rattle.planning.specs.Planning.{over}
use Rattle.planning.specs.Tables.{paths_over}
use Rattle.planning.proofs.Standing.{length_paths_over}
use Rattle.planner.specs.Steps.{delays_over, finished}
use Rattle.planner.proofs.Rewriting.{edges_kept}
use Rattle.planner.proofs.Surveying.{front_of}

-- marking, filling and sizing
module _ (actors : List Actor) (L : List Link) (given : ℕ)
    (M : List Link) (is_marked : M ≡ marked actors (map link_edge L) (take given L) ++ drop given L) where
  pub marked_edges : map link_edge M ≡ map link_edge L
  marked_edges = edges_kept actors (map link_edge L) L M given is_marked

  module _ (D D1 D2 : List Delay) (kept : drop (length actors * length actors) D1 ≡ drop (length actors * length actors) D)
      (is_filled : D2 ≡ paths_over Directed delay_ops (length actors) (orders actors ++ map link_edge M) ++ drop (length actors * length actors) D1) where
    pub delays_filled : D2 ≡ over (delays_over actors L) D
    delays_filled =
        is_filled
        ∙ ap (λ fs. paths_over Directed delay_ops (length actors) (orders actors ++ fs) ++ drop (length actors * length actors) D1) marked_edges
        ∙ ap (λ xs. delays_over actors L ++ xs) kept
        ∙ ap (λ i. delays_over actors L ++ drop i D) (sym (length_paths_over delay_ops (length actors) Directed (orders actors ++ map link_edge L)))

    pub links_finished : (after : List Link) → after ≡ sized (length actors) (take (length actors * length actors) D2) M → after ≡ finished actors given L
    links_finished after is_sized =
        is_sized
        ∙ ap (λ ds. sized (length actors) ds M) (front_of Directed delay_ops (length actors) (orders actors ++ map link_edge L) D D2 delays_filled)
        ∙ ap (sized (length actors) (delays_over actors L)) is_marked
