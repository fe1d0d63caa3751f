-- A row in words.
use Rattle.std.specs.Prelude.{ℕ, List, [], ◌∷◌, ◌++◌, ◌==◌, codes, length, map, Option, Some, None, slice_get, if◌then◌else◌}
use Rattle.std.specs.Fmt.{decimal, signed_decimal}
use Rattle.std.specs.List.{flat_map, zip}
use Rattle.clr_rows.specs.declared.cells.CellId.{CellId}
use Rattle.clr_rows.specs.declared.places.Place.{Place}
use Rattle.clr_rows.specs.declared.places.Shape.{Shape}
use Rattle.clr_rows.specs.declared.places.Shape.TheVariants.{Bare, At, Line, Chain}
use Rattle.clr_rows.specs.declared.rows.Value.{Value}
use Rattle.clr_rows.specs.declared.rows.Value.TheVariants.{Int, Words}
use Rattle.clr_rows.specs.declared.rows.Row.{Row}
use Rattle.clr_rows.specs.declared.tables.Kind.{Kind}
use Rattle.clr_rows.specs.declared.tables.TableDef.{TableDef}
use Rattle.clr_phrases.specs.Places.{place_text}

-- a byte on one line: a space (32) stands in place of a line end (10)
abbrev pub byte_on_one_line : ℕ → ℕ
byte_on_one_line b = if b == 10 then 32 else b

-- a number, or a text on one line in quotes
abbrev pub value_text : Value → List ℕ
value_text (Int number) = signed_decimal number
value_text (Words words) = codes "'" ++ map byte_on_one_line words ++ codes "'"

-- a value behind the name of its column, and a comma
abbrev pub column_text : (List ℕ × Kind) × Value → List ℕ
column_text c = c.0.0 ++ codes " " ++ value_text c.1 ++ codes ", "

-- the values of a row, and nothing where its table isn't known
abbrev pub values_text : Option TableDef → Row → List ℕ
values_text None row = []
values_text (Some table) row = flat_map column_text (zip table.columns row.values)

abbrev pub count_text : ℕ → List ℕ
count_text count = decimal count ++ (if count == 1 then codes " vertex" else codes " vertices")

-- the last of the vertices that follow one
abbrev pub last_place : Place → List Place → Place
last_place place [] = place
last_place place (next ∷ places) = last_place next places

-- how many vertices stand between the ends of a path, if some do
abbrev pub between_text : ℕ → List ℕ
between_text count = if count == 0 then [] else codes " by " ++ count_text count

-- the first and the last vertex of a path, and how many stand between
abbrev pub path_text : List Place → List ℕ
path_text (first ∷ next ∷ places) =
    codes "from " ++ place_text first ++ between_text (length places) ++ codes " to " ++ place_text (last_place next places)
path_text _ = codes "no shape"

-- where a shape is
abbrev pub shape_text : Shape → List ℕ
shape_text Bare = codes "no shape"
shape_text (At place) = codes "at " ++ place_text place
shape_text (Line first last) = codes "from " ++ place_text first ++ codes " to " ++ place_text last
shape_text (Chain vertices) = path_text vertices

-- a row of a cell: its values, and where it is
abbrev pub row_words : List TableDef → CellId → Row → List ℕ
row_words tables cell row = values_text (slice_get tables cell.table) row ++ shape_text row.shape
