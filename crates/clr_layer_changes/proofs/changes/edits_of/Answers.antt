use Rattle.std.proofs.Common.{◌≡◌, ◌++◌, ◌∷◌, List, [], map, append_assoc, append-nil, sym, ap, ◌∙◌}
use Rattle.std.specs.Map.Iter.{deref_pair}
use Rattle.std.proofs.lemmas.Map.Iter.{rest_more}
use Rattle.clr_rows.specs.declared.cells.CellId.{CellId}
use Rattle.clr_rows.specs.declared.cells.Change.{Change}
use Rattle.clr_change.specs.declared.edits.Edit.{Edit}
use Rattle.clr_layer_changes.specs.Changes.{edit_of}
use Rattle.clr_layer_changes.proofs.changes.edits_of.Goals as goal

pushed : (so_far : List Edit) (e : CellId × Change) (edit : Edit) (left all : List (CellId × Change)) → all ≡ e ∷ left → edit ≡ edit_of e
    → (so_far ++ edit ∷ []) ++ map edit_of left ≡ so_far ++ map edit_of all
pushed so_far e edit left all rest same =
    append_assoc so_far (edit ∷ []) _ ∙ (λ i. so_far ++ (same i ∷ map edit_of left)) ∙ ap (λ (es : List (CellId × Change)). so_far ++ map edit_of es) (sym rest)

pub loop-cell-preserved : goal.loop-cell-preserved
loop-cell-preserved c =
    let left = c.next.new.self in
    let rest = rest_more deref_pair c.loop-cell.cell-iterator left c.next.result (c.in-Some.cell, c.in-Some.change) c.in-Some.is c.next.ensures.steps in
    ap (λ (edits : List Edit). edits ++ map edit_of left) c.in_ok-push.ensures.items
    ∙ pushed c.loop-cell.edits.items (c.in-Some.cell.now, c.in-Some.change.now) c.in_ok-edit_of.field-0 left c.loop-cell.cell-iterator rest
    c.in_ok-edit_of.ensures
    ∙ c.loop-cell.invariant

pub returns : goal.returns
returns c =
    let items = c.loop-cell.edits.items in
    c.new.ensures ∙ sym (append-nil items) ∙ ap (λ (es : List (CellId × Change)). items ++ map edit_of es) (sym c.in-None.ensures.steps.0) ∙ c.loop-cell.invariant
