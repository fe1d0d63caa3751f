-- Lines that are split at one place.
use Rattle.std.specs.Prelude.{ℕ, Bool, List, [], ◌∷◌, ◌++◌, Option, Some, None, if◌then◌else◌}
use Rattle.clr_rows.specs.declared.cells.CellId.{CellId}
use Rattle.clr_rows.specs.declared.places.Place.{Place}
use Rattle.clr_rows.specs.declared.rows.Row.{Row}
use Rattle.clr_change.specs.declared.edits.Edit.{Edit}
use Rattle.clr_change.specs.declared.edits.Edit.TheVariants as edit
use Rattle.clr_tips.specs.declared.lines.Splitter.{Splitter}
use Rattle.clr_tips.specs.declared.splits.Piece.{Piece}
use Rattle.clr_tips.specs.declared.splits.Split.{Split}
use Rattle.clr_tips.specs.Lines.{line_edits}

-- the cell of the node that a design brings, if it is to bring it
abbrev pub brought : Splitter → Bool → Option CellId
brought x brings = if brings then Some x.node else None

abbrev pub node_edits : Option CellId → Row → List Edit
node_edits None node = []
node_edits (Some q) node = edit.Insert q node ∷ []

-- a design splits its line, and brings the node if it is to
abbrev pub piece_of : Splitter → Place → Row → Bool → Piece
piece_of x p node brings =
    record { member = x.member; edits = line_edits x p ++ node_edits (brought x brings) node; node = brought x brings }

-- one design splits both lines, and brings the node
abbrev pub split_by_one : Place → Row → Splitter → Splitter → Split
split_by_one p node x y = record {
  place = p;
  first = record { member = x.member; edits = (line_edits x p ++ line_edits y p) ++ node_edits (Some x.node) node; node = Some x.node };
  other = None;
}

-- two designs split a line each, and some of them bring the node
abbrev pub split_by_two : Place → Row → Splitter → Splitter → Bool → Bool → Split
split_by_two p node x y first_brings second_brings =
    record { place = p; first = piece_of x p node first_brings; other = Some (piece_of y p node second_brings) }
