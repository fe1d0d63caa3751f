use Rattle.std.proofs.Common.{◌≤◌, length}
use Rattle.clr_text_positions.proofs.json_values.value_at.Given as goal

abbrev pub invariant-loop-step : goal.invariant-loop-step
invariant-loop-step l = l.at ≤ length l.text
