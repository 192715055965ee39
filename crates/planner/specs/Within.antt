-- What the checks leave known of a table of links.
use Rattle.std.specs.Prelude.{ℕ, ◌+◌, ◌*◌, ◌<◌, ◌≤◌, List, length, take, slice_index_or}
use Rattle.records.specs.declared.tables.Link.{Link}
use Rattle.records.specs.Tables.{no_link}

-- both ends of each link are below n
abbrev pub EndsBelow : ℕ → List Link → Type 0
EndsBelow n links = (k : ℕ) → k < length links → ((slice_index_or links k no_link).sender < n) × ((slice_index_or links k no_link).receiver < n)

-- what holds of tables and workspaces that pass the checks
pub record Sound (n : ℕ) (links : List Link) (given delays reach : ℕ) : Type 0 where
  pub few : n ≤ 64
  pub given_few : given ≤ 256
  pub links_room : given + 15 ≤ length links
  pub delays_room : n * n ≤ delays
  pub reach_room : n * n ≤ reach
  pub ends : EndsBelow n (take given links)
