-- Workspaces by their differences, as JSON.
use Rattle.std.specs.Prelude.{List, codes, map}
use Rattle.serde_json.specs.Data.{Data, boolean, string, object, member, no_members}
use Rattle.clr_rows.specs.declared.tables.TableDef.{TableDef}
use Rattle.clr_deltas.specs.Deltas.{Delta}
use Rattle.clr_deltas.specs.declared.stored_marks.StoredMark.{StoredMark}
use Rattle.clr_deltas.specs.declared.stored_marks.StoredMark.TheVariants as stored
use Rattle.clr_office_reading.specs.declared.named_marks.NamedMark.{NamedMark}
use Rattle.clr_office_reading.specs.declared.named_marks.NamedMark.TheVariants as named
use Rattle.clr_office_writing.specs.CellData.{differences_data, named_cell_data, cells_with_names}
use Rattle.clr_office_writing.specs.Values.{list_data}

abbrev pub named_mark : List TableDef → StoredMark → NamedMark
named_mark tables (stored.Child name) = named.Child name
named_mark tables (stored.Saved name d) = named.Saved name (cells_with_names tables d)

abbrev pub named_mark_data : NamedMark → Data
named_mark_data (named.Child name) = object (member (codes "child") (string name) no_members)
named_mark_data (named.Saved name cells) =
    object (member (codes "rows") (list_data named_cell_data cells) (member (codes "savepoint") (string name) no_members))

-- marks as JSON, in their order
abbrev pub marks_data : List TableDef → List StoredMark → Data
marks_data tables marks = list_data named_mark_data (map (named_mark tables) marks)

abbrev pub delta_data : List TableDef → Delta → Data
delta_data tables l =
    object (member (codes "base") (differences_data tables l.base) (member (codes "kept") (boolean l.kept) (member (codes "marks") (marks_data tables l.marks)
    (member (codes "name") (string l.name) (member (codes "parent") (string l.parent)
    (member (codes "rows") (differences_data tables l.current) no_members))))))
