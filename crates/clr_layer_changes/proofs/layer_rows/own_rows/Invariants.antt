use Rattle.std.proofs.Common.{◌≡◌}
use Rattle.clr_layer_changes.specs.LayerRows.{own_rows, with_own}
use Rattle.clr_layer_changes.specs.declared.limits.TheConstants.{FIRST_RECORD}
use Rattle.clr_layer_changes.proofs.TurnLemmas.{after_rest}
use Rattle.clr_layer_changes.proofs.layer_rows.own_rows.Given as goal

-- the rows so far, with those that are left, are all of them
abbrev pub invariant-loop-i : goal.invariant-loop-i
invariant-loop-i l = after_rest (with_own l.table) FIRST_RECORD l.rows l.i l.layer ≡ own_rows l.table l.layer
