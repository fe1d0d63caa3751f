use Rattle.std.proofs.Common.{◌≡◌, drop}
use Rattle.clr_tips.specs.Rows.{wanted_value}
use Rattle.clr_tips.proofs.rows.wanted_value.Given as goal

-- what the rest of the filter asks for is what all of it asks for
abbrev pub invariant-loop-at : goal.invariant-loop-at
invariant-loop-at l = wanted_value (drop l.at-index l.filter) l.column l.kind ≡ wanted_value l.filter l.column l.kind
