use Rattle.std.proofs.Common.{◌≡◌}
use Rattle.clr_layer_changes.specs.Keys.{ArePassed, is_free}
use Rattle.clr_layer_changes.specs.LayerRows.{all_rows, with_given}
use Rattle.clr_layer_changes.specs.declared.limits.TheConstants.{FIRST_RECORD}
use Rattle.clr_layer_changes.proofs.TurnLemmas.{after_rest}
use Rattle.clr_layer_changes.proofs.layer_rows.all_rows.Given as goal

-- the rows so far, with those that are left, are all of them; and no key up to the next is free
abbrev pub invariant-loop-i : goal.invariant-loop-i
invariant-loop-i l = record {
  left : after_rest (with_given l.live l.table l.first) FIRST_RECORD l.rows l.i l.layer ≡ all_rows l.live l.table l.first l.fn.own l.layer;
  passed : ArePassed (is_free l.live l.rows l.table) l.first l.next;
}
