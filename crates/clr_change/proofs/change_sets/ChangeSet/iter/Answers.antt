use Rattle.std.proofs.Common.{◌<◌, ◌^◌, List, length, sym, ◌∙◌, ap, subst}
use Rattle.std.specs.FinMap as finite
use Rattle.clr_rows.specs.declared.cells.CellId.{CellId}
use Rattle.clr_rows.specs.declared.cells.Change.{Change}
use Rattle.clr_rows.specs.Cells.{cell_cmp}
use Rattle.clr_rows.specs.Contents.{Changes}
use Rattle.clr_change.proofs.change_sets.ChangeSet.iter.Goals as goal

pub returns-clause-rest : goal.returns-clause-rest
returns-clause-rest c = c.iter.ensures.rest ∙ sym (finite.entries-from_sorted cell_cmp _ c.self.invariant.ascending)
    ∙ ap (λ (m : Changes). finite.entries m) c.self.view_is

pub returns-clause-small : goal.returns-clause-small
returns-clause-small c =
    subst (λ (es : List (CellId × Change)). length es < 2 ^ 63)
    (sym (finite.entries-from_sorted cell_cmp _ c.self.invariant.ascending) ∙ ap (λ (m : Changes). finite.entries m) c.self.view_is) c.iter.ensures.fits
