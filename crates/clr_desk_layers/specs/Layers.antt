-- What is printed of a table: the layer of its rows, or why it has none.
use Rattle.std.specs.Prelude.{◌≡◌, ◌++◌, ℕ, List, [], true, false, Some, None, codes}
use Rattle.clr_rows.specs.Contents.{Content}
use Rattle.clr_rows.specs.declared.tables.TableDef.{TableDef}
use Rattle.clr_rows.specs.Schemas.{table_named}
use Rattle.clr_workspaces.specs.Marks.{Name}
use Rattle.clr_steps.specs.Offices.{Office, content_of, stands}
use Rattle.clr_layer_text.specs.TableRows.{IsTableLayer}
use Rattle.clr_layer_faults.specs.UnfitLines.{no_table_word, unfit_line}
use Rattle.clr_desk_prints.specs.NameHints.{refused_for}
use Rattle.clr_desk_prints.specs.Printing.{PrintoutOrFault, printout_of}

-- why there is no layer, as a number and a word, the second as in a plan: no workspace has the name; a column of the table is called as the
-- field of shapes
abbrev pub no_workspace_word : List ℕ
no_workspace_word = codes "2 NoWorkspace"

abbrev pub wkt_column_word : List ℕ
wkt_column_word = codes "9 WktColumn"

-- no text, and the line of such a word as the only note, which refuses
abbrev pub unfit_print : List ℕ → Name → PrintoutOrFault
unfit_print why name = printout_of [] (unfit_line why name) true false

-- the same, where the name is one that nothing has
abbrev pub unknown_print : List ℕ → Name → PrintoutOrFault
unknown_print why name = refused_for true (unfit_print why name)

-- the layer of a table's rows in a content, or that a column is called as the field of shapes
pub data IsPrintOfTable (tables : List TableDef) (at : ℕ) (table : Name) (content : Content) (print : PrintoutOrFault) : Type 0 where
  of_layer : (text : List ℕ) → IsTableLayer tables at content (Some text) → print ≡ printout_of text [] false false
      → IsPrintOfTable tables at table content print
  of_wkt_column : IsTableLayer tables at content None → print ≡ unfit_print wkt_column_word table → IsPrintOfTable tables at table content print

-- the layer of a table in a workspace, both given by name, or that no table or no workspace has this name
pub data IsLayerPrint (table workspace : Name) (o : Office) (print : PrintoutOrFault) : Type 0 where
  of_table : (at : ℕ) → table_named o.schema table ≡ Some at → stands o workspace ≡ true
      → IsPrintOfTable o.schema at table (content_of o workspace) print → IsLayerPrint table workspace o print
  of_no_table : table_named o.schema table ≡ None → print ≡ unknown_print no_table_word table → IsLayerPrint table workspace o print
  of_no_workspace : (at : ℕ) → table_named o.schema table ≡ Some at → stands o workspace ≡ false → print ≡ unfit_print no_workspace_word workspace
      → IsLayerPrint table workspace o print
