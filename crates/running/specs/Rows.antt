-- The guards of a run, link by link: which of them stand in an act's way, and what an act does to them.
use Rattle.std.specs.Prelude.{ℕ, ◌+◌, Bool, cond, not, ◌&&◌, ◌||◌, List, [], ◌∷◌, Some, None, Option, ◌==◌}
use Rattle.records.specs.declared.tables.Link.{Link}
use Rattle.guards.specs.Levels.{Level, level, waiting, full, taken, sent}
use Rattle.running.specs.declared.Act.{Act}
use Rattle.running.specs.declared.Act.TheVariants.{Start, Finish}

-- each guard changed by what its link says; guards past the links stand
abbrev pub each : (Link → Level → Level) → List Link → List Level → List Level
each change [] row = row
each change (l ∷ ls) [] = []
each change (l ∷ ls) (x ∷ xs) = change l x ∷ each change ls xs

-- the number, counted from k, of the first link that fails with its guard
abbrev pub first_link : (Link → Level → Bool) → ℕ → List Link → List Level → Option ℕ
first_link fails k [] row = None
first_link fails k (l ∷ ls) [] = None
first_link fails k (l ∷ ls) (x ∷ xs) = cond (fails l x) (Some k) (first_link fails (k + 1) ls xs)

-- kept and back links have a guard
abbrev pub guarded : Link → Bool
guarded l = l.mark == 1 || l.mark == 3

-- the guard that a link has at opening
abbrev pub set_up : Link → Level → Level
set_up l x = cond (guarded l) (level l.delay l.size) x

-- the end of a link that an act of that actor concerns: a start takes from the links into it, a finish sends on those out of it
abbrev pub end_of : Act → Link → ℕ
end_of Start l = l.receiver
end_of Finish l = l.sender

abbrev pub concerns : Act → ℕ → Link → Bool
concerns act a l = guarded l && end_of act l == a

-- the guard does not let the act pass: it is empty, or full
abbrev pub stops : Act → Level → Bool
stops Start x = not (waiting x)
stops Finish x = full x

abbrev pub blocks : Act → ℕ → Link → Level → Bool
blocks act a l x = concerns act a l && stops act x

-- one value is taken, or sent
abbrev pub moved : Act → Level → Level
moved Start x = taken x
moved Finish x = sent x

abbrev pub passes : Act → ℕ → Link → Level → Level
passes act a l x = cond (concerns act a l) (moved act x) x
