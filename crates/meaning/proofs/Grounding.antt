-- The edges of a drawing: those of its processors' orders stay on one processor, and the others are those of its links.
use Rattle.std.proofs.Common.{◌≡◌, List, ◌++◌, map, inl, inr}
use Rattle.records.specs.declared.tables.Actor.{Actor}
use Rattle.records.specs.declared.tables.Edge.{Edge}
use Rattle.records.specs.declared.tables.Link.{Link}
use Rattle.records.specs.Tables.{link_edge, processor_of}
use Rattle.waits.specs.Events.{In}
use Rattle.waits.proofs.Paths.{in-++}
use Rattle.planning.specs.Backs.{Ground}
use Rattle.planning.specs.Edges.{orders}
use Rattle.meaning.proofs.Chosen.{in_right}
use Rattle.meaning.proofs.Merging.{Covered}
use Rattle.meaning.proofs.OrderEdges.{order_if_in}

orders_local : (actors : List Actor) (e : Edge) → In e (orders actors) → processor_of actors e.sender ≡ processor_of actors e.receiver
orders_local actors e i = elim (order_if_in actors e i) [ inl x ↦ x.0.same | inr x ↦ x.0.same ]

-- orders and links cover a drawing's edges
pub drawing_covered : (g : Ground) (ls : List Link) → Covered g (orders g.actors ++ map link_edge ls) ls
drawing_covered g ls = record {
  given = λ e i. in_right e (orders g.actors) (map link_edge ls) i;
  turn_or_link = λ e i. elim (in-++ e (orders g.actors) (map link_edge ls) i) [ inl j ↦ inl (orders_local g.actors e j) | inr j ↦ inr j ];
}
