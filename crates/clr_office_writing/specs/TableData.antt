-- Tables as JSON.
use Rattle.std.specs.Prelude.{ℕ, List, codes}
use Rattle.serde_json.specs.Data.{Data, string, array, object, no_items, item, member, no_members}
use Rattle.clr_rows.specs.declared.tables.Kind.{Kind}
use Rattle.clr_rows.specs.declared.tables.Form.{Form}
use Rattle.clr_rows.specs.declared.tables.Form.TheVariants as form
use Rattle.clr_rows.specs.declared.tables.TableDef.{TableDef}
use Rattle.clr_office_reading.specs.Tables.{kind_word}
use Rattle.clr_office_writing.specs.Values.{list_data}

abbrev pub form_word : Form → List ℕ
form_word form.Bare = codes "NONE"
form_word form.Point = codes "POINT"
form_word form.Segment = codes "SEGMENT"
form_word form.Path = codes "PATH"

abbrev pub column_data : List ℕ × Kind → Data
column_data column = array (item (string column.0) (item (string (kind_word column.1)) no_items))

abbrev pub table_data : TableDef → Data
table_data table =
    object (member (codes "columns") (list_data column_data table.columns) (member (codes "name") (string table.name)
    (member (codes "shape") (string (form_word table.shape)) no_members)))
