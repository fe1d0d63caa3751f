use Rattle.std.proofs.Common.{[], ap, subst, sym, ◌∙◌}
use Rattle.clr_rows.proofs.CellOrder.{cell_cmp_total, cell_cmp_exact}
use Rattle.clr_rows.proofs.SortedMaps.{from_sorted-empty}
use Rattle.clr_change.specs.ChangeSets.{IsSoundChangeSet, AreDifferent, changes_of}
use Rattle.clr_rows.proofs.FitLemmas.{none_keeps}
use Rattle.clr_change.proofs.SetLemmas.{is_different}
use Rattle.clr_change.proofs.change_sets.ChangeSet.new.Goals as goal

none_sound : IsSoundChangeSet []
none_sound =
    let none = sym (from_sorted-empty cell_cmp_total cell_cmp_exact) in
    record { ascending = tt; differ = subst AreDifferent none (none_keeps is_different) }

pub invariant_of-result : goal.invariant_of-result
invariant_of-result c = subst IsSoundChangeSet (sym c.new.ensures.empty) none_sound

pub returns : goal.returns
returns c = ap changes_of c.new.ensures.empty ∙ from_sorted-empty cell_cmp_total cell_cmp_exact
