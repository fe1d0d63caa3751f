-- The tables of an office text, or BadField.
use Rattle.std.specs.Prelude.{ℕ, List, codes, Result, Ok, Err, if◌then◌else◌}
use Rattle.std.specs.Str.{bytes_eq}
use Rattle.serde_json.specs.Data.{Data, Items, no_items, item}
use Rattle.clr_rows.specs.declared.tables.Kind.{Kind}
use Rattle.clr_rows.specs.declared.tables.Kind.TheVariants as kind
use Rattle.clr_rows.specs.declared.tables.Form.{Form}
use Rattle.clr_rows.specs.declared.tables.Form.TheVariants as form
use Rattle.clr_rows.specs.declared.tables.TableDef.{TableDef}
use Rattle.clr_rule_text.specs.declared.faults.TextFault.{TextFault}
use Rattle.clr_rule_text.specs.declared.faults.TextFault.TheVariants.{BadField}
use Rattle.clr_rule_text.specs.declared.formats.Format.{Format}
use Rattle.clr_rule_text.specs.declared.formats.Format.TheVariants.{First, Second, Third, Fourth}
use Rattle.clr_readings.specs.Readings.{◌>>=◌}
use Rattle.clr_rule_text.specs.Fields.{each, field_of, list_at, array_of, words_at, words_of}

-- the word for what a column holds
abbrev pub kind_word : Kind → List ℕ
kind_word kind.Int = codes "INT"
kind_word kind.Words = codes "TEXT"

abbrev pub kind_named : List ℕ → Result Kind TextFault
kind_named word = if bytes_eq word (codes "INT") then Ok kind.Int else (if bytes_eq word (codes "TEXT") then Ok kind.Words else Err BadField)

abbrev pub kind_of : Data → Result Kind TextFault
kind_of d = words_of d >>= kind_named

-- format 1 has no paths
abbrev pub path_in : Format → Result Form TextFault
path_in First = Err BadField
path_in Second = Ok form.Path
path_in Third = Ok form.Path
path_in Fourth = Ok form.Path

abbrev pub form_named : Format → List ℕ → Result Form TextFault
form_named format word =
    if bytes_eq word (codes "NONE") then Ok form.Bare
    else (if bytes_eq word (codes "POINT") then Ok form.Point
    else (if bytes_eq word (codes "SEGMENT") then Ok form.Segment
    else (if bytes_eq word (codes "PATH") then path_in format
    else Err BadField)))

abbrev pub form_of : Format → Data → Result Form TextFault
form_of format d = words_of d >>= form_named format

-- a name and a kind
unfoldable pub pair_of : Items → Result (List ℕ × Kind) TextFault
pair_of no_items = Err BadField
pair_of (item d no_items) = Err BadField
pair_of (item d (item e no_items)) = do
  kind ← kind_of e
  name ← words_of d
  Ok (name, kind)
pair_of (item d (item e (item f more))) = Err BadField

unfoldable pub column_of : Data → Result (List ℕ × Kind) TextFault
column_of d = array_of d >>= pair_of

unfoldable pub columns_of : Data → Result (List (List ℕ × Kind)) TextFault
columns_of d = list_at (codes "columns") d >>= each column_of

unfoldable pub table_of : Format → Data → Result TableDef TextFault
table_of format d = do
  name ← words_at (codes "name") d
  columns ← columns_of d
  shape ← field_of (codes "shape") d
  shape ← form_of format shape
  Ok (record { name = name; columns = columns; shape = shape })

unfoldable pub tables_of : Format → Data → Result (List TableDef) TextFault
tables_of format d = list_at (codes "tables") d >>= each (table_of format)
