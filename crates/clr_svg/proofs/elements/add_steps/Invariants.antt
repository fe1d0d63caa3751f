use Rattle.std.proofs.Common.{◌≡◌, ◌++◌, take}
use Rattle.clr_svg.specs.Elements.{steps_text}
use Rattle.clr_svg.proofs.elements.add_steps.Given as goal

-- the steps so far are added
abbrev pub invariant-loop-step : goal.invariant-loop-step
invariant-loop-step l = l.text.items ≡ l.initial.text.items ++ steps_text (take l.step-index l.steps)
