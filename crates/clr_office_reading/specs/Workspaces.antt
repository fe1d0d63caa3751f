-- The workspaces of an office text, by their differences from their parents' contents.
use Rattle.std.specs.Prelude.{◌≡◌, String, Bool, false, ◌||◌, List, [], ◌∷◌, ◌++◌, codes, Option, Some, None, Result, Ok, Err, if◌then◌else◌}
use Rattle.std.specs.BTreeSet.{BTreeSet, contains_text}
use Rattle.std.specs.List.{list_any}
use Rattle.std.specs.Str.{bytes_eq}
use Rattle.std.specs.declared.alloc.Global.{Global}
use Rattle.serde_json.specs.Data.{Data, Items, no_items, item}
use Rattle.serde_json.specs.Find.{get}
use Rattle.clr_rows.specs.declared.tables.TableDef.{TableDef}
use Rattle.clr_rows.specs.Names.{live_name}
use Rattle.clr_deltas.specs.Differences.{Differences}
use Rattle.clr_deltas.specs.Deltas.{Delta}
use Rattle.clr_workspaces.specs.Marks.{Name}
use Rattle.clr_deltas.specs.declared.stored_marks.StoredMark.{StoredMark}
use Rattle.clr_deltas.specs.declared.stored_marks.StoredMark.TheVariants as stored
use Rattle.clr_rule_text.specs.declared.faults.TextFault.{TextFault}
use Rattle.clr_rule_text.specs.declared.faults.TextFault.TheVariants.{BadPart}
use Rattle.clr_rule_text.specs.declared.formats.Format.{Format}
use Rattle.clr_rule_text.specs.declared.formats.Format.TheVariants.{First, Second, Third, Fourth}
use Rattle.clr_office_reading.specs.declared.named_marks.NamedMark.{NamedMark}
use Rattle.clr_office_reading.specs.declared.named_marks.NamedMark.TheVariants as named
use Rattle.clr_office_reading.specs.declared.workspaces.Head.{Head}
use Rattle.clr_readings.specs.Readings.{◌>>=◌}
use Rattle.clr_rule_text.specs.Fields.{each, each_in, flag_or_not, list_or_none, words_at, words_of}
use Rattle.clr_office_reading.specs.Patches.{differences_at, differences_of, named_cells_at}

-- marks --------------------------------------------------------------------------------------

unfoldable pub saved_of : List TableDef → Data → Result NamedMark TextFault
saved_of tables d = do
  name ← words_at (codes "savepoint") d
  rows ← named_cells_at (codes "rows") tables d
  Ok (named.Saved name rows)

abbrev pub mark_with : List TableDef → Option Data → Data → Result NamedMark TextFault
mark_with tables None d = saved_of tables d
mark_with tables (Some child) d = words_of child >>= λ name. Ok (named.Child name)

-- a mark that has a child is that child's, whatever else it has
unfoldable pub named_mark_of : List TableDef → Data → Result NamedMark TextFault
named_mark_of tables d = mark_with tables (get (codes "child") d) d

unfoldable pub named_marks_of : List TableDef → Data → Result (List NamedMark) TextFault
named_marks_of tables d = list_or_none (get (codes "marks") d) >>= each (named_mark_of tables)

abbrev pub mark_over : List TableDef → NamedMark → Result StoredMark TextFault
mark_over tables (named.Child name) = Ok (stored.Child name)
mark_over tables (named.Saved name rows) = differences_of tables rows >>= λ d. Ok (stored.Saved name d)

-- each mark is read for BadField before the cells of any are put
unfoldable pub marks_of : List TableDef → Data → Result (List StoredMark) TextFault
marks_of tables d = named_marks_of tables d >>= each_in (mark_over tables)

-- workspaces ---------------------------------------------------------------------------------

-- a workspace is kept in formats 3 and 4 alone
abbrev pub kept_of : Format → Data → Result Bool TextFault
kept_of First d = Ok false
kept_of Second d = Ok false
kept_of Third d = flag_or_not (get (codes "kept") d)
kept_of Fourth d = flag_or_not (get (codes "kept") d)

unfoldable pub head_of : Format → Data → Result Head TextFault
head_of format d = do
  name ← words_at (codes "name") d
  parent ← words_at (codes "parent") d
  kept ← kept_of format d
  Ok (record { name = name; parent = parent; kept = kept })

-- the name is that of LIVE, or of one of some workspaces
abbrev pub stands_in : List Delta → Name → Bool
stands_in earlier name = bytes_eq name live_name || list_any (λ l. bytes_eq name l.name) earlier

-- the names are those of some workspaces
abbrev pub HasNames : BTreeSet (String Global) → List Delta → Type 0
HasNames names earlier = (name : Name) → contains_text names name ≡ list_any (λ l. bytes_eq name l.name) earlier

abbrev pub under_one_of : List Delta → Head → Result Head TextFault
under_one_of earlier head = if stands_in earlier head.parent then Ok head else Err BadPart

-- what a workspace has beside its head: its base, its rows and its marks
unfoldable pub contents_of : List TableDef → Data → Result (Differences × Differences × List StoredMark) TextFault
contents_of tables d = do
  base ← differences_at (codes "base") tables d
  rows ← differences_at (codes "rows") tables d
  marks ← marks_of tables d
  Ok (base, rows, marks)

-- a workspace whose parent is LIVE or an earlier one
unfoldable pub delta_of : Format → List TableDef → List Delta → Data → Result Delta TextFault
delta_of format tables earlier d = do
  read ← head_of format d
  head ← under_one_of earlier read
  base ← differences_at (codes "base") tables d
  rows ← differences_at (codes "rows") tables d
  marks ← marks_of tables d
  Ok (record { name = head.name; parent = head.parent; base = base; current = rows; marks = marks; kept = head.kept })

-- workspaces after those before them
unfoldable pub deltas_after : Format → List TableDef → List Delta → Items → Result (List Delta) TextFault
deltas_after format tables earlier no_items = Ok earlier
deltas_after format tables earlier (item d ds) = do
  next ← delta_of format tables earlier d
  deltas_after format tables (earlier ++ next ∷ []) ds

unfoldable pub deltas_of : Format → List TableDef → Data → Result (List Delta) TextFault
deltas_of format tables d = list_or_none (get (codes "workspaces") d) >>= deltas_after format tables []
