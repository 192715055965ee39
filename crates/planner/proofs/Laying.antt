-- Edges laid one after the other.
use Rattle.std.proofs.Common.{◌≡◌, ℕ, ◌+◌, ◌-◌, ◌<◌, List, [], ◌∷◌, ◌++◌, map, length, get_or, drop, set, replicate, sym, ap, ◌∙◌}
use Rattle.std.specs.List.{range_with_len}
use Rattle.std.proofs.lemmas.List.{drop_more, set_at, append_assoc, length-replicate, replicate_more}
use Rattle.records.specs.declared.tables.Actor.{Actor}
use Rattle.paths.specs.Algebra.{Ops}
use Rattle.planning.specs.declared.Sight.{Sight}
use Rattle.planning.specs.Edges.{order_edge}
use Rattle.planning.specs.Tables.{lay_seen, laid}
use Rattle.planner.proofs.Counting.{counting_more}

-- one more of the first cells is cleared
pub clear_more : {M : Type 0} (cells : List M) (v : M) (i : ℕ) → i < length cells
    → set (replicate i v ++ drop i cells) i v ≡ replicate (i + 1) v ++ drop (i + 1) cells
clear_more cells v i h =
    ap (λ xs. set (replicate i v ++ xs) i v) (drop_more cells i v h)
    ∙ set_at (replicate i v) (get_or cells i v) (drop (i + 1) cells) v i (length-replicate i v)
    ∙ sym (append_assoc (replicate i v) (v ∷ []) (drop (i + 1) cells))
    ∙ ap (λ xs. xs ++ drop (i + 1) cells) (replicate_more i v)

module _ {M : Type 0} (s : Sight) (o : Ops M) (n : ℕ) where
  -- the order's edge into v is laid
  pub laid_order_more : (actors : List Actor) (v : ℕ) (cells after : List M) → v < n
      → after ≡ lay_seen s o n cells (order_edge actors v)
      → laid s o n after (map (order_edge actors) (range_with_len (v + 1) (n - (v + 1))))
      ≡ laid s o n cells (map (order_edge actors) (range_with_len v (n - v)))
  laid_order_more actors v cells after h e =
      ap (λ xs. laid s o n xs (map (order_edge actors) (range_with_len (v + 1) (n - (v + 1))))) e
      ∙ sym (ap (λ vs. laid s o n cells (map (order_edge actors) vs)) (counting_more v n h))
