use Rattle.std.proofs.Common.{◌≤◌, length}
use Rattle.std.specs.Prelude.{IfSome}
use Rattle.clr_text_positions.proofs.json_values.member_value.Given as goal

abbrev pub invariant-members : goal.invariant-members
invariant-members l = (l.next ≤ length l.text) × IfSome l.found (λ found. found ≤ length l.text)
