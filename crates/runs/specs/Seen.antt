-- A run as its contracts see it: what it reads, how it stands, and what no call changes.
use Rattle.std.specs.Prelude.{◌≡◌, map}
use Rattle.guards.specs.Levels.{Level}
use Rattle.running.specs.Runs.{Site, Standing, fault_of, site, standing}
use Rattle.runs.specs.declared.run.Run.{Run}

-- over guards of type G
module _ {G : Type 0} where
  abbrev pub site_of_run : Run G → Site
  site_of_run run = site run.tables.actors.now run.tables.links.now

  -- guards are seen by their levels
  abbrev pub standing_of_run : (G → Level) → Run G → Standing
  standing_of_run level run = standing (fault_of run.tables.sound) run.entries run.turns (map level run.row.now)

  -- the tables, the slip, and which row is borrowed
  abbrev pub Kept : Run G → Run G → Type 0
  Kept before after = (after.tables ≡ before.tables) × (after.slip ≡ before.slip) × (after.row.ghost_name ≡ before.row.ghost_name)
