-- Office texts whose every row fits the schema.
use Rattle.std.specs.Prelude.{◌≡◌, List, Option, Some, None}
use Rattle.std.specs.FinMap as finite
use Rattle.std.specs.List.{AllByRecursion}
use Rattle.clr_rows.specs.declared.cells.CellId.{CellId}
use Rattle.clr_rows.specs.declared.rows.Row.{Row}
use Rattle.clr_rows.specs.declared.tables.TableDef.{TableDef}
use Rattle.clr_rows.specs.Schemas.{FitsSchema, schema_fault}
use Rattle.clr_rules.specs.Books.{FitsBook}
use Rattle.clr_deltas.specs.Differences.{Differences}
use Rattle.clr_deltas.specs.Deltas.{Delta}
use Rattle.clr_deltas.specs.declared.stored_marks.StoredMark.{StoredMark}
use Rattle.clr_deltas.specs.declared.stored_marks.StoredMark.TheVariants as stored
use Rattle.clr_office_reading.specs.Offices.{OfficeText}
use Rattle.clr_office_reading.specs.Patches.{put_fault}

-- each row fits at its cell, and some row could stand where there is none
abbrev pub FitsDifferences : List TableDef → Differences → Type 0
FitsDifferences tables d = (cell : CellId) (row : Option Row) → finite.get d cell ≡ Some row → put_fault tables cell row ≡ None

abbrev pub FitsMark : List TableDef → StoredMark → Type 0
FitsMark tables (stored.Saved name d) = FitsDifferences tables d
FitsMark tables (stored.Child name) = Unit {0}

pub record FitsDelta (tables : List TableDef) (l : Delta) : Type 0 where
  pub base : FitsDifferences tables l.base
  pub current : FitsDifferences tables l.current
  pub marks : AllByRecursion (FitsMark tables) l.marks

pub record FitsOffice (o : OfficeText) : Type 0 where
  pub schema : schema_fault o.schema ≡ None
  pub book : FitsBook o.schema o.book
  pub live : FitsSchema o.schema o.live
  pub deltas : AllByRecursion (FitsDelta o.schema) o.deltas
