use Rattle.std.proofs.Common.{◌≡◌, ◌++◌, string_bytes, take}
use Rattle.std.specs.List.{flat_map}
use Rattle.clr_explanations.specs.Places.{step_text}
use Rattle.clr_explanations.proofs.places.add_steps.Given as goal

-- the steps so far are written
abbrev pub invariant-loop-step : goal.invariant-loop-step
invariant-loop-step l = string_bytes l.path ≡ string_bytes l.initial.path ++ flat_map step_text (take l.step-index l.steps)
