use Rattle.std.proofs.Common.{◌≡◌, true, [], ap, subst, sym, ◌∙◌}
use Rattle.clr_rows.specs.Sheets.{IsSoundSheet, sheet_content}
use Rattle.clr_rows.specs.Ranges.{AreWithin, is_within}
use Rattle.clr_rows.proofs.CellOrder.{cell_cmp_total, cell_cmp_exact}
use Rattle.clr_rows.proofs.SortedMaps.{from_sorted-empty}
use Rattle.clr_rows.proofs.FitLemmas.{none_keeps}
use Rattle.clr_rows.proofs.sheets.Sheet.new.Goals as goal

none_sound : IsSoundSheet []
none_sound = record {
  ascending = tt;
  within = subst AreWithin (sym (from_sorted-empty cell_cmp_total cell_cmp_exact)) (none_keeps (λ c r. is_within c r ≡ true));
}

pub invariant_of-result : goal.invariant_of-result
invariant_of-result c = subst IsSoundSheet (sym c.new.ensures.empty) none_sound

pub returns : goal.returns
returns c = ap sheet_content c.new.ensures.empty ∙ from_sorted-empty cell_cmp_total cell_cmp_exact
