-- Which sign the points of a table have.
use Rattle.std.specs.Prelude.{ℕ, min, Bool, true, false, List, count_by, length, take}
use Rattle.clr_rows.specs.declared.tables.Form.{Form}
use Rattle.clr_rows.specs.declared.tables.Form.TheVariants as form
use Rattle.clr_rows.specs.declared.tables.TableDef.{TableDef}
use Rattle.clr_drawing.specs.declared.signs.Sign.{Sign}
use Rattle.clr_drawing.specs.Signs.{sign_of}

abbrev pub is_point_form : Form → Bool
is_point_form form.Bare = false
is_point_form form.Point = true
is_point_form form.Segment = false
is_point_form form.Path = false

abbrev pub is_of_points : TableDef → Bool
is_of_points table = is_point_form table.shape

-- the tables of points take the signs in their order
abbrev pub sign_of_table : List TableDef → ℕ → Sign
sign_of_table tables table = sign_of (count_by is_of_points (take (min (length tables) table) tables))
