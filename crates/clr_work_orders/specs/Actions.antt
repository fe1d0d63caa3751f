-- An action in words.
use Rattle.std.specs.Prelude.{ℕ, List, [], ◌∷◌, ◌++◌, codes, Option, Some, None}
use Rattle.clr_rows.specs.declared.cells.CellId.{CellId}
use Rattle.clr_rows.specs.declared.places.Shape.{Shape}
use Rattle.clr_rows.specs.declared.places.Shape.TheVariants as shape
use Rattle.clr_rows.specs.declared.tables.TableDef.{TableDef}
use Rattle.clr_change.specs.declared.edits.Edit.{Edit}
use Rattle.clr_change.specs.declared.edits.Edit.TheVariants as edit
use Rattle.clr_workspaces.specs.Marks.{Name}
use Rattle.clr_member_changes.specs.Names.{member_name}
use Rattle.clr_phrases.specs.Places.{place_text}
use Rattle.clr_plan_answers.specs.Answers.{order_text}
use Rattle.clr_plan_sentences.specs.Labels.{cell_label}
use Rattle.clr_tips.specs.declared.splits.Piece.{Piece}
use Rattle.clr_tips.specs.declared.splits.Split.{Split}
use Rattle.clr_work_orders.specs.declared.actions.Action.{Action}
use Rattle.clr_work_orders.specs.declared.actions.Action.TheVariants as action

-- where a row is brought
abbrev pub brought_text : Shape → List ℕ
brought_text (shape.At p) = codes " at " ++ place_text p
brought_text _ = []

-- an edit of a member: a row is brought, or is as it was taken over, or isn't there
abbrev pub edit_text : List TableDef → Name → Edit → List ℕ
edit_text tables name (edit.Insert q row) = codes "with " ++ cell_label tables q ++ brought_text row.shape ++ codes " in " ++ name
edit_text tables name (edit.Update q row) = codes "with " ++ cell_label tables q ++ codes " in " ++ name ++ codes " as it was taken over"
edit_text tables name (edit.Delete q) = codes "without " ++ cell_label tables q ++ codes " in " ++ name

-- the node that a member brings where lines are split, if it brings one
abbrev pub brought_node : List TableDef → Name → Option CellId → List ℕ
brought_node tables name None = []
brought_node tables name (Some q) = codes ", with " ++ cell_label tables q ++ codes " in " ++ name

abbrev pub piece_text : List TableDef → List Name → Piece → List ℕ
piece_text tables members piece = brought_node tables (member_name members piece.member) piece.node

abbrev pub other_text : List TableDef → List Name → Option Piece → List ℕ
other_text tables members None = []
other_text tables members (Some piece) = piece_text tables members piece

-- where two lines are split, and who brings a node there
abbrev pub split_text : List TableDef → List Name → Split → List ℕ
split_text tables members split =
    codes "with both split at " ++ place_text split.place ++ piece_text tables members split.first ++ other_text tables members split.other

-- what is said of an action of members, which is tried among those in an order
abbrev pub action_text : List TableDef → List Name → List ℕ → Action → List ℕ
action_text tables members order (action.GoFirst at) = codes "first " ++ order_text members (at ∷ order)
action_text tables members order (action.LeaveOut at) = codes "without " ++ member_name members at
action_text tables members order (action.Make at e) = edit_text tables (member_name members at) e
action_text tables members order (action.Split split) = split_text tables members split
