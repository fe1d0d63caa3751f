-- What guarded edits promise: all or nothing, and nothing where a row is stale.
use Rattle.std.specs.Prelude.{◌≡◌, ◌≢◌, true, false, List, Contains, Some, None}
use Rattle.std.specs.FinMap as finite
use Rattle.clr_rows.specs.declared.cells.CellId.{CellId}
use Rattle.clr_rows.specs.declared.cells.Change.{Change}
use Rattle.clr_rows.specs.declared.rows.Row.{Row}
use Rattle.clr_rows.specs.declared.tables.TableDef.{TableDef}
use Rattle.clr_rows.specs.Contents.{Content, changes, row_at, taken_over}
use Rattle.clr_guarded_edits.specs.Runs.{Passes, StandsAsItWas, after_statements, committed}
use Rattle.clr_guarded_edits.specs.Statements.{statements_between}

-- where the old rows stand as they were, the changed cells have what the new content has, and all others what the tables have
abbrev pub WrittenLaw : Type 0
WrittenLaw = (passes : Passes) (tables : List TableDef) (old new content : Content) → StandsAsItWas passes tables old new content
    → after_statements passes content (statements_between tables old new) ≡ Some (taken_over content (changes old new))

-- so over tables that have the old rows and no others, the new rows are left
abbrev pub OverOldRowsLaw : Type 0
OverOldRowsLaw = (passes : Passes) (tables : List TableDef) (old new : Content) → ((table : TableDef) → Contains tables table → passes old table ≡ true)
    → after_statements passes old (statements_between tables old new) ≡ Some new

-- only where they stand as they were is anything written
abbrev pub NothingElseLaw : Type 0
NothingElseLaw = (passes : Passes) (tables : List TableDef) (old new content left : Content)
    → after_statements passes content (statements_between tables old new) ≡ Some left → StandsAsItWas passes tables old new content

-- so where a row of the old content isn't there as it was, the tables stay as they are
abbrev pub StaleRowLaw : Type 0
StaleRowLaw = (passes : Passes) (tables : List TableDef) (old new content : Content) (cell : CellId) (row : Row) → row_at old cell ≡ Some row
    → row_at content cell ≢ Some row
    → committed passes content (statements_between tables old new) ≡ content

-- and so they do where a row is at a cell where one is to be put
abbrev pub TakenKeyLaw : Type 0
TakenKeyLaw = (passes : Passes) (tables : List TableDef) (old new content : Content) (cell : CellId) (change : Change)
    → finite.get (changes old new) cell ≡ Some change → change.before ≡ None → row_at content cell ≢ None
    → committed passes content (statements_between tables old new) ≡ content

-- and where a pass over a table prints a row or finds one otherwise: a row that came meanwhile
abbrev pub RowsThatCameLaw : Type 0
RowsThatCameLaw = (passes : Passes) (tables : List TableDef) (old new content : Content) (table : TableDef) → Contains tables table
    → passes content table ≡ false
    → committed passes content (statements_between tables old new) ≡ content
