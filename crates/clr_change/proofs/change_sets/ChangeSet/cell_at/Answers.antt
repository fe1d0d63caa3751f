use Rattle.std.proofs.Common.{List, ◌∙◌, ap}
use Rattle.std.specs.List.{slice_get}
use Rattle.clr_rows.specs.declared.cells.CellId.{CellId}
use Rattle.clr_rows.proofs.CellOrder.{cell_cmp_total}
use Rattle.clr_rows.proofs.SortedMaps.{held_where, keys-from_sorted}
use Rattle.clr_change.proofs.change_sets.ChangeSet.cell_at.Goals as goal

pub returns-clause-position : goal.returns-clause-position
returns-clause-position c =
    c.copied.ensures ∙ c.key_at.ensures ∙ ap (λ (xs : List CellId). slice_get xs c.args.at) (keys-from_sorted _ _ c.self.invariant.ascending c.self.view_is)

pub returns-clause-held : goal.returns-clause-held
returns-clause-held c = held_where cell_cmp_total c.args.self.now c.args.at _ (returns-clause-position c)
