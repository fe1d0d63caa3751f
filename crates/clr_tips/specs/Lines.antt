-- The edits by which a line is split at a place.
use Rattle.std.specs.Prelude.{ℕ, List, [], ◌∷◌, ◌++◌, drop, length, nat_lt, take, if◌then◌else◌}
use Rattle.clr_rows.specs.declared.places.Place.{Place}
use Rattle.clr_rows.specs.declared.places.Shape.{Shape}
use Rattle.clr_rows.specs.declared.places.Shape.TheVariants as shape
use Rattle.clr_rows.specs.declared.rows.Row.{Row}
use Rattle.clr_change.specs.declared.edits.Edit.{Edit}
use Rattle.clr_change.specs.declared.edits.Edit.TheVariants as edit
use Rattle.clr_tips.specs.declared.lines.Splitter.{Splitter}

-- a row with the same values and another shape
abbrev pub with_shape : Row → Shape → Row
with_shape row other = record { values = row.values; shape = other }

-- a segment ends at the place, and another row with its values goes on from there
abbrev pub halves : Splitter → Place → Place → Place → List Edit
halves x first last p =
    edit.Update x.cell (with_shape x.row (shape.Line first p))
    ∷ edit.Insert (record { table = x.cell.table; key = x.key }) (with_shape x.row (shape.Line p last)) ∷ []

-- vertices with one more between the two of a part, which is counted from 1
abbrev pub with_vertex : List Place → ℕ → Place → List Place
with_vertex vertices part p = if nat_lt (length vertices) part then vertices else take part vertices ++ p ∷ drop part vertices

-- a path has one more vertex
abbrev pub bent : Splitter → List Place → Place → List Edit
bent x vertices p = edit.Update x.cell (with_shape x.row (shape.Chain (with_vertex vertices x.part p))) ∷ []

abbrev pub edits_of_shape : Splitter → Place → Shape → List Edit
edits_of_shape x p (shape.Line first last) = halves x first last p
edits_of_shape x p (shape.Chain vertices) = bent x vertices p
edits_of_shape x p (shape.At q) = []
edits_of_shape x p shape.Bare = []

-- the edits by which the line of a row is split; none of a row without a line
abbrev pub line_edits : Splitter → Place → List Edit
line_edits x p = edits_of_shape x p x.row.shape
