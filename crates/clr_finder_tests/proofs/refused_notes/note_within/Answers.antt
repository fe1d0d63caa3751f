use Rattle.std.proofs.Common.{◌≡◌, ◌∙◌, None, ap, pos}
use Rattle.std.specs.FinMap as finite
use Rattle.clr_rows.specs.Cells.{cell_cmp}
use Rattle.clr_rows.specs.declared.cells.CellId.{CellId as Cell}
use Rattle.clr_rows.proofs.CellOrder.{cell_cmp_total}
use Rattle.clr_finder_tests.proofs.refused_notes.note_within.Goals as goal

abbrev first : Cell
first = record { table = 1; key = pos 1 }

abbrev second : Cell
second = record { table = 1; key = pos 2 }

-- where nothing was pending, a change of one cell leaves another without one
still_free : {X : Type 0} (before after : finite.FinMap cell_cmp X) (x : X) → before ≡ finite.empty → after ≡ finite.insert before first x →
    finite.get after second ≡ None
still_free before after x empty inserted = ap (λ pending. finite.get pending second) (inserted ∙ ap (λ pending. finite.insert pending first x) empty)
    ∙ finite.get-insert cell_cmp_total finite.empty first x second
    ∙ finite.get-empty cell_cmp second

pub note-requires-clause-free : goal.note-requires-clause-free
note-requires-clause-free g c = ap (λ pending. finite.get pending first) c.requires ∙ finite.get-empty cell_cmp first

pub note-noted-requires-clause-free : goal.note-noted-requires-clause-free
note-noted-requires-clause-free g c = still_free _ _ _ c.requires c.in_ok-note.ensures.ok
