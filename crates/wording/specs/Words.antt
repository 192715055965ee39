-- The lines in which the steps of a run are told.
use Rattle.std.specs.Prelude.{ℕ, List, [], ◌∷◌, ◌++◌}
use Rattle.running.specs.declared.Step.{Step}
use Rattle.running.specs.Words.{step_text}

abbrev pub step_line : Step → List ℕ
step_line s = step_text s ++ 10 ∷ []

-- a line for each step
abbrev pub step_lines : List Step → List ℕ
step_lines [] = []
step_lines (s ∷ ss) = step_line s ++ step_lines ss
