-- The edits between two contents lead from the one to the other.
use Rattle.std.proofs.Common.{◌≡◌, List, [], ◌∷◌, map, Option, Some, None, refl, ap, ◌∙◌}
use Rattle.std.specs.FinMap as finite
use Rattle.clr_rows.specs.declared.cells.CellId.{CellId}
use Rattle.clr_rows.specs.declared.cells.Change.{Change}
use Rattle.clr_rows.specs.declared.rows.Row.{Row}
use Rattle.clr_rows.specs.Contents.{Content, changes, over, set_cell}
use Rattle.clr_rows.proofs.ChangeLemmas.{taken_over-own}
use Rattle.clr_change.specs.Edits.{after_edit, after_edits}
use Rattle.clr_layer_changes.specs.Changes.{edit_of, edit_to, edits_between}

-- an edit sets its cell to the row behind the change
pub after_edit_to : (content : Content) (cell : CellId) (before after : Option Row) → after_edit content (edit_to cell before after)
    ≡ set_cell content cell after
after_edit_to content cell None None = refl
after_edit_to content cell (Some old) None = refl
after_edit_to content cell None (Some row) = refl
after_edit_to content cell (Some old) (Some row) = refl

all : (content : Content) (es : List (CellId × Change)) → after_edits content (map edit_of es) ≡ over content (map (λ e. (e.0, e.1.after)) es)
unfolding after_edits over
all content [] = refl
all content (e ∷ es) =
    ap (λ (m : Content). after_edits m (map edit_of es)) (after_edit_to content e.0 e.1.before e.1.after) ∙ all (set_cell content e.0 e.1.after) es

pub edits_lead : (base current : Content) → after_edits base (edits_between base current) ≡ current
edits_lead base current = all base (finite.entries (changes base current)) ∙ taken_over-own base current
