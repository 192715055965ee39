-- The string, followed by the lines of the steps that are left, is what it is to be.
use Rattle.std.proofs.Common.{◌≡◌, ◌++◌, drop, string_bytes}
use Rattle.wording.specs.Words.{step_lines}
use Rattle.wording.proofs.steps.tell_steps.Given as goal

abbrev pub invariant-loop-step : goal.invariant-loop-step
invariant-loop-step l = string_bytes l.told ++ step_lines (drop l.step-index l.steps) ≡ string_bytes l.initial.told ++ step_lines l.steps
