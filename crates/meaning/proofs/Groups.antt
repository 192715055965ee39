-- Who reaches whom, groups and parts, as the tables of some edges tell them.
use Rattle.std.proofs.Common.{ℕ, ◌+◌, ◌<◌, List, Decides}
use Rattle.std.proofs.lemmas.Bool.Decides.{Decides-and}
use Rattle.records.specs.declared.tables.Edge.{Edge}
use Rattle.records.specs.Tables.{edge}
use Rattle.waits.specs.Events.{Path, last, step}
use Rattle.waits.proofs.Paths.{path_joined}
use Rattle.planning.specs.Groups.{reaches, same_group, same_part}
use Rattle.planning.specs.Tables.{least_delays, parts}
use Rattle.meaning.specs.Components.{Reaches, Group, Joined, Entry, Exit}
use Rattle.meaning.proofs.Reaching.{Small, reaches_path, path_reaches}
use Rattle.meaning.proofs.Joining.{joined_path, path_joined_part}
use Rattle.meaning.proofs.Joins.{loose_joins, joined_loose}

pub reaches_on : {es : List Edge} {u w v : ℕ} → Reaches es u w → Reaches es w v → Reaches es u v
reaches_on p q = (p.0 + q.0, path_joined p.1 q.1)

pub group_back : {es : List Edge} {u v : ℕ} → Group es u v → Group es v u
group_back g = (g.1, g.0)

pub group_on : {es : List Edge} {u w v : ℕ} → Group es u w → Group es w v → Group es u v
group_on g h = (reaches_on g.0 h.0, reaches_on h.1 g.1)

-- whoever reaches an entry group is in it
pub into_entry : {es : List Edge} {u : ℕ} → Entry es u → {w x t : ℕ} → Path es w x t → Group es u x → Group es u w
into_entry entry (last {u = w} {v = x} {d = d} h) g = entry (edge w x d) h g
into_entry entry (step {u = w} {w = x} d h p) g = entry (edge w x d) h (into_entry entry p g)

-- whoever is reached from an exit group is in it
pub out_of_exit : {es : List Edge} {u : ℕ} → Exit es u → {w x t : ℕ} → Path es w x t → Group es u w → Group es u x
out_of_exit exit (last {u = w} {v = x} {d = d} h) g = exit (edge w x d) h g
out_of_exit exit (step {u = w} {w = x} d h p) g = out_of_exit exit p (exit (edge w x d) h g)

module _ (n : ℕ) (es : List Edge) (small : Small n es) where
  pub reaches_decides : (u v : ℕ) → u < n → v < n → Decides (reaches n (least_delays n es) u v) (Reaches es u v)
  reaches_decides u v hu hv = (λ t. (_, reaches_path n es small u v hu hv t), λ r. path_reaches n es small u v hu hv r.1)

  pub group_decides : (u v : ℕ) → u < n → v < n → Decides (same_group n (least_delays n es) u v) (Group es u v)
  group_decides u v hu hv = Decides-and _ _ (reaches_decides u v hu hv) (reaches_decides v u hv hu)

  pub part_decides : (u v : ℕ) → u < n → v < n → Decides (same_part n (parts n es) u v) (Joined es u v)
  part_decides u v hu hv =
      (λ t. loose_joins (joined_path n es small.within u v hu hv t), λ j. path_joined_part n es small.within u v hu hv (joined_loose j))
