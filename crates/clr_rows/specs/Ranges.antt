-- Rows whose numbers are all within 64 bits, as every row of the program is.
use Rattle.std.specs.Prelude.{◌≡◌, Bool, true, ◌&&◌, nat_lt, Some}
use Rattle.std.specs.List.{list_all}
use Rattle.clr_rows.specs.declared.cells.CellId.{CellId}
use Rattle.clr_rows.specs.declared.places.Place.{Place}
use Rattle.clr_rows.specs.declared.places.Shape.{Shape}
use Rattle.clr_rows.specs.declared.places.Shape.TheVariants.{Bare, At, Line, Chain}
use Rattle.clr_rows.specs.declared.rows.Row.{Row}
use Rattle.clr_rows.specs.Contents.{Content, row_at}
use Rattle.clr_rows.specs.Numbers.{is_i64}
use Rattle.clr_rows.specs.Schemas.{is_number}

abbrev pub is_place_within : Place → Bool
is_place_within p = is_i64 p.x && is_i64 p.y

abbrev pub is_shape_within : Shape → Bool
is_shape_within Bare = true
is_shape_within (At p) = is_place_within p
is_shape_within (Line p q) = is_place_within p && is_place_within q
is_shape_within (Chain vertices) = list_all is_place_within vertices

-- the key, each number and each coordinate is within 64 bits, and the table within 16
unfoldable pub is_within : CellId → Row → Bool
is_within cell row = nat_lt cell.table 65536 && is_i64 cell.key && list_all is_number row.values && is_shape_within row.shape

-- each row of a content has its numbers within 64 bits
abbrev pub AreWithin : Content → Type 0
AreWithin content = (cell : CellId) (row : Row) → row_at content cell ≡ Some row → is_within cell row ≡ true
