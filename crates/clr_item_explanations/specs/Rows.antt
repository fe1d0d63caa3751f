-- What is wrong with the fields of rows and cells.
use Rattle.std.specs.Prelude.{ℕ, ◌%◌, ◌==◌, List, [], ◌∷◌, ◌++◌, codes, decimal, length, nat_le, Bool, true, false, ◌&&◌, ◌||◌, Option, Some, None}
use Rattle.std.specs.Prelude.{option_and_then, unwrap_or, if◌then◌else◌}
use Rattle.std.specs.Option.{option_map, option_or}
use Rattle.serde_json.specs.Data.{Data}
use Rattle.serde_json.specs.Find.{as_bool}
use Rattle.clr_rows.specs.declared.tables.Form.{Form}
use Rattle.clr_rows.specs.declared.tables.Form.TheVariants as form
use Rattle.clr_rows.specs.declared.tables.TableDef.{TableDef}
use Rattle.clr_text_positions.specs.declared.paths.Key.TheVariants as key
use Rattle.clr_item_explanations.specs.declared.fields.Wanted.TheVariants as wanted
use Rattle.clr_item_explanations.specs.declared.rows.Within.{Within}
use Rattle.clr_item_explanations.specs.declared.rows.Within.TheVariants as within
use Rattle.clr_item_explanations.specs.Fields.{wrong_coordinate, wrong_fields, wrong_value}
use Rattle.clr_item_explanations.specs.Tellings.{Plain, Wrong, at_key, wrong_in_list}
use Rattle.clr_item_explanations.specs.Values.{items_at, table_called, text_at, value_at}

-- how many coordinates a row has
abbrev pub coordinates_text : Option Form → List ℕ
coordinates_text (Some form.Bare) = codes "a row of shape NONE has none"
coordinates_text (Some form.Point) = codes "a POINT has 2, x and y"
coordinates_text (Some form.Segment) = codes "a SEGMENT has 4, x and y of each end"
coordinates_text (Some form.Path) = codes "a PATH has 2 for each vertex"
coordinates_text None = codes "a row has 0, 2 or 4"

abbrev pub is_path : Option Form → Bool
is_path (Some form.Bare) = false
is_path (Some form.Point) = false
is_path (Some form.Segment) = false
is_path (Some form.Path) = true
is_path None = false

-- so many coordinates make places, and no more than two of them but in a path
abbrev pub makes_places : Option Form → ℕ → Bool
makes_places f count = count % 2 == 0 && (is_path f || nat_le count 4)

-- there are more or fewer coordinates than a row of any form has
unfoldable pub wrong_coordinate_count : Option Form → Data → Option Wrong
wrong_coordinate_count f d = let count = length (items_at key.S d) in
    if makes_places f count then None else Some (at_key key.S (Plain (decimal count ++ codes " coordinates; " ++ coordinates_text f)))

-- the form of the rows of a cell's table, where the table is known
unfoldable pub form_in : List TableDef → Data → Option Form
form_in tables d = option_map (λ table. table.shape) (table_called tables (text_at key.T d))

-- the values and then the shape of a row
unfoldable pub wrong_content : List TableDef → Data → Option Wrong
wrong_content tables d =
    option_or (wrong_fields ((key.V, wanted.List) ∷ []) d)
    (option_or (wrong_in_list key.V (λ at value. wrong_value wanted.Value value) d)
    (option_or (wrong_fields ((key.S, wanted.List) ∷ []) d)
    (option_or (wrong_in_list key.S (λ at value. wrong_coordinate value) d)
    (wrong_coordinate_count (form_in tables d) d))))

-- whether a cell says that no row stands there
unfoldable pub is_gone : Data → Bool
is_gone d = unwrap_or (option_and_then as_bool (value_at key.Gone d)) false

-- no row of LIVE is gone
abbrev pub wrong_if_gone : Within → Option Wrong
wrong_if_gone within.Workspace = None
wrong_if_gone within.Live = Some (at_key key.Gone (Plain (codes "a row of LIVE can't be gone; leave the item out")))

-- a cell that is gone has no content
abbrev pub wrong_unless_gone : Bool → Within → List TableDef → Data → Option Wrong
wrong_unless_gone gone place tables d = if gone then wrong_if_gone place else wrong_content tables d

-- the fields of a row or a cell
unfoldable pub wrong_row : List TableDef → Within → Data → Option Wrong
wrong_row tables place d =
    option_or (wrong_fields ((key.T, wanted.Text) ∷ (key.K, wanted.WholeNumber) ∷ (key.Gone, wanted.OptionalFlag) ∷ []) d)
    (wrong_unless_gone (is_gone d) place tables d)
