-- Trees that fit a schema, with their finders, and what is judged in them.
use Rattle.std.specs.Prelude.{◌≡◌, List, Option, Some, if◌then◌else◌}
use Rattle.clr_rows.specs.declared.tables.TableDef.{TableDef}
use Rattle.clr_rows.specs.declared.cells.CellId.{CellId}
use Rattle.clr_rows.specs.declared.rows.Row.{Row}
use Rattle.clr_rows.specs.Contents.{Changes, Content, changes, row_at}
use Rattle.clr_needs.specs.Members.{after_in}
use Rattle.clr_rows.specs.Schemas.{FitsSchema}
use Rattle.clr_rules.specs.declared.rules.Rule.{Rule}
use Rattle.clr_rules.specs.Books.{FitsBook}
use Rattle.clr_workspaces.specs.Soundness.{IsSound}
use Rattle.clr_workspaces.specs.Workspaces.{Workspace}
use Rattle.clr_finders.specs.RowMaps.{FiledRows}
use Rattle.clr_steps.specs.Invariants.{OfficeFits}
use Rattle.clr_steps.specs.Offices.{office_of}
use Rattle.clr_grid.specs.Finders.{AreFinders}
use Rattle.clr_judges.specs.KeptContents.{kept_contents}

-- changes of which none leaves the row that a content has
abbrev pub DoChangeRows : Content → Changes → Type 0
DoChangeRows content changed = (q : CellId) (row : Option Row) → after_in changed q ≡ Some row → row ≡ row_at content q → ⊥

-- the content of a workspace where it is kept, or else another
abbrev pub kept_or : Workspace → Content → Content
kept_or w content = if w.kept then w.current else content

-- the rules and each row of a tree fit some schema
pub record FitSome (rules : List Rule) (ws : List Workspace) : Type 0 where
  pub tables : List TableDef
  pub book : FitsBook tables rules
  pub rows : OfficeFits (office_of tables rules ws)

-- one schema that rules and two contents fit
pub record FitBoth (rules : List Rule) (current next : Content) : Type 0 where
  pub tables : List TableDef
  pub book : FitsBook tables rules
  pub before : FitsSchema tables current
  pub after : FitsSchema tables next

-- changes of a content that lead to another one, which fits
pub record LeadOn (rules : List Rule) (current : Content) (changed : Changes) : Type 0 where
  pub next : Content
  pub lead : changed ≡ changes current next
  pub fit : FitBoth rules current next

-- a tree as offices have it, with its finders
pub record IsServed (book : List Rule) (ws : List Workspace) (finders : List (Option FiledRows)) : Type 0 where
  pub sound : IsSound ws
  pub fit : FitSome book ws
  pub are : AreFinders book (kept_contents ws) finders
