-- What a transaction leaves of tables, which are a content: all that its statements do, or nothing.
use Rattle.std.specs.Prelude.{◌≡◌, Bool, true, Contains, List, [], ◌∷◌, Option, Some, None, unwrap_or, if◌then◌else◌}
use Rattle.std.specs.FinMap as finite
use Rattle.std.specs.Option.{option_and_then}
use Rattle.clr_rows.specs.declared.cells.CellId.{CellId}
use Rattle.clr_rows.specs.declared.cells.Change.{Change}
use Rattle.clr_rows.specs.declared.rows.Row.{Row}
use Rattle.clr_rows.specs.declared.tables.TableDef.{TableDef}
use Rattle.clr_rows.specs.Contents.{Content, changes, row_at, set_cell}
use Rattle.clr_rows.specs.Same.{same}
use Rattle.clr_guarded_edits.specs.Statements.{Statement, Pass, Demand, Make}

-- whether a pass over a table of a content prints no row and finds none otherwise
abbrev pub Passes : Type 0
Passes = Content → TableDef → Bool

-- the content that a statement leaves, or none where it fails
unfoldable pub after_statement : Passes → Content → Statement → Option Content
after_statement passes content (Pass table) = if passes content table then Some content else None
after_statement passes content (Demand cell wanted) = if same (row_at content cell) wanted then Some content else None
after_statement passes content (Make cell change) =
    if same (row_at content cell) change.before then Some (set_cell content cell change.after) else Some content

-- the content that statements leave, each over what the one before left, or none where one of them fails
unfoldable pub after_statements : Passes → Content → List Statement → Option Content
after_statements passes content [] = Some content
after_statements passes content (s ∷ ss) = option_and_then (λ next. after_statements passes next ss) (after_statement passes content s)

-- what the tables have once a transaction of statements is over: where one fails it is rolled back
abbrev pub committed : Passes → Content → List Statement → Content
committed passes content statements = unwrap_or (after_statements passes content statements) content

-- each row of a content is in the tables as it was, no row is where one is to be put, and a pass over each table prints none
pub record StandsAsItWas (passes : Passes) (tables : List TableDef) (old new content : Content) : Type 0 where
  pub rows : (cell : CellId) (row : Row) → row_at old cell ≡ Some row → row_at content cell ≡ Some row
  pub free : (cell : CellId) (change : Change) → finite.get (changes old new) cell ≡ Some change → change.before ≡ None → row_at content cell ≡ None
  pub passed : (table : TableDef) → Contains tables table → passes content table ≡ true
