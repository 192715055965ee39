-- Tables over the pairs of actors: from edges to the best paths.
use Rattle.std.specs.Prelude.{ℕ, ◌+◌, ◌*◌, List, [], ◌∷◌, replicate, slice_index_or, slice_set}
use Rattle.records.specs.declared.tables.Edge.{Edge}
use Rattle.records.specs.Tables.{edge}
use Rattle.paths.specs.Algebra.{Ops}
use Rattle.paths.specs.Closure.{closed}
use Rattle.paths.specs.Models.{reach_ops, delay_ops}
use Rattle.paths.specs.declared.delay.Delay.{Delay}
use Rattle.paths.specs.declared.reach.Reach.{Reach}
use Rattle.planning.specs.declared.Sight.{Sight}
use Rattle.planning.specs.declared.Sight.TheVariants.{Directed, Loose}

-- the edge joins the choice at its entry
abbrev pub lay : {M : Type 0} → Ops M → ℕ → List M → Edge → List M
lay o n cells e =
    slice_set cells (e.sender * n + e.receiver)
    (o.choose (slice_index_or cells (e.sender * n + e.receiver) o.none) (o.edge e.delay))

abbrev pub lay_seen : {M : Type 0} → Sight → Ops M → ℕ → List M → Edge → List M
lay_seen Directed o n cells e = lay o n cells e
lay_seen Loose o n cells e = lay o n (lay o n cells (edge e.sender e.receiver 0)) (edge e.receiver e.sender 0)

-- the edges one after the other
abbrev pub laid : {M : Type 0} → Sight → Ops M → ℕ → List M → List Edge → List M
laid s o n cells [] = cells
laid s o n cells (e ∷ es) = laid s o n (lay_seen s o n cells e) es

-- the values of the best paths between n actors over these edges
unfoldable pub paths_over : {M : Type 0} → Sight → Ops M → ℕ → List Edge → List M
paths_over s o n es = closed o n (laid s o n (replicate (n * n) o.none) es)

-- the least delays
abbrev pub least_delays : ℕ → List Edge → List Delay
least_delays n es = paths_over Directed delay_ops n es

-- who is reached by delay-free edges
abbrev pub delay_free : ℕ → List Edge → List Reach
delay_free n es = paths_over Directed reach_ops n es

-- who shares a part
abbrev pub parts : ℕ → List Edge → List Reach
parts n es = paths_over Loose reach_ops n es
