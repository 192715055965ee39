-- To follow a drawing is to obey its list of edges.
use Rattle.std.proofs.Common.{List, ◌++◌, inl, inr}
use Rattle.records.specs.declared.tables.Actor.{Actor}
use Rattle.records.specs.declared.tables.Edge.{Edge}
use Rattle.waits.specs.Events.{Follows, Enforced, Event, Lawful, ObeysAll, Enforces}
use Rattle.waits.proofs.Paths.{in-++}
use Rattle.planning.specs.Edges.{orders}
use Rattle.meaning.proofs.Chosen.{in_left, in_right}
use Rattle.meaning.proofs.OrderEdges.{order_if_in, in_if_order}

module _ (actors : List Actor) (links : List Edge) (xs : List Event) where
  pub follows : Lawful xs → ObeysAll xs (orders actors ++ links) → Follows actors links xs
  follows lawful all = record {
    lawful = lawful;
    obeys_orders = λ e o. all e (in_left e (orders actors) links (in_if_order actors e o));
    obeys_links = λ e i. all e (in_right e (orders actors) links i);
  }

  pub obeys_edges : Follows actors links xs → ObeysAll xs (orders actors ++ links)
  obeys_edges f e i = elim (in-++ e (orders actors) links i) [
    | inl j ↦ f.obeys_orders e (order_if_in actors e j)
    | inr j ↦ f.obeys_links e j
  ]

-- enforced by the drawing, or by its list of edges
pub enforced : (actors : List Actor) (links : List Edge) (e : Edge) → Enforces (orders actors ++ links) e → Enforced actors links e
enforced actors links e h xs f = h xs f.lawful (obeys_edges actors links xs f)

pub enforces : (actors : List Actor) (links : List Edge) (e : Edge) → Enforced actors links e → Enforces (orders actors ++ links) e
enforces actors links e h xs lawful all = h xs (follows actors links xs lawful all)
