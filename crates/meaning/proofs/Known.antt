-- Tables of groups and parts that are those of some edges.
use Rattle.std.proofs.Common.{◌≡◌, ℕ, ◌<◌, List, map, length, take, refl}
use Rattle.records.specs.declared.tables.Edge.{Edge}
use Rattle.records.specs.Tables.{link_edge, processor_of}
use Rattle.waits.specs.Events.{Path}
use Rattle.waits.proofs.Paths.{path_over_more}
use Rattle.planning.specs.Backs.{Ground, count}
use Rattle.planning.specs.Edges.{orders}
use Rattle.planning.specs.Planning.{Given, base_edges, plan_ground}
use Rattle.planning.specs.Tables.{least_delays, parts}
use Rattle.meaning.proofs.Chosen.{in_left}
use Rattle.meaning.proofs.Reaching.{Small}
use Rattle.meaning.proofs.Turns.{round_path}

-- the tables of the ground are those of es, and es has the turns of the processors
pub record Known (g : Ground) (es : List Edge) : Type 0 where
  pub small : Small (count g) es
  pub delays : g.delays ≡ least_delays (count g) es
  pub joined : g.joined ≡ parts (count g) es
  pub turns : (u v : ℕ) → u < count g → v < count g → processor_of g.actors u ≡ processor_of g.actors v → Path es u v 1

-- those of a drawing are
pub given_known : (d : Given) → Small (length d.actors) (base_edges d) → Known (plan_ground d) (base_edges d)
given_known d small = record {
  small = small;
  delays = refl;
  joined = refl;
  turns = λ u v hu hv e. path_over_more (λ f i. in_left f (orders d.actors) (map link_edge (take d.given d.links)) i) (round_path d.actors u v hu hv e);
}
