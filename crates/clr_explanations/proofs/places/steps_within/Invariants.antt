use Rattle.std.proofs.Common.{◌≡◌, ◌++◌, drop}
use Rattle.serde_json.specs.View.{view}
use Rattle.clr_explanations.specs.Places.{steps_within}
use Rattle.clr_explanations.proofs.places.steps_within.Given as goal

-- the steps so far, with those that are left from the value that they lead to, are all of them
abbrev pub invariant-loop-step : goal.invariant-loop-step
invariant-loop-step l = l.within.items ++ steps_within (drop l.step-index l.steps) (view l.value) ≡ steps_within l.steps (view l.item)
