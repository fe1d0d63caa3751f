-- What is printed of two office texts: the edits that take LIVE of the first to LIVE of the second.
use Rattle.std.specs.Prelude.{◌≡◌, ℕ, List, codes, Option, Some, None, false, unwrap_or}
use Rattle.clr_rows.specs.declared.places.Place.{Place}
use Rattle.clr_rows.specs.declared.tables.TableDef.{TableDef}
use Rattle.clr_rows.specs.Contents.{Content}
use Rattle.clr_rows.specs.Schemas.{name_of_table}
use Rattle.clr_workspaces.specs.Marks.{Name}
use Rattle.clr_steps.specs.Offices.{Office}
use Rattle.clr_lines.specs.Pieces.{cell_text}
use Rattle.clr_layer_changes.specs.Changes.{edits_between}
use Rattle.clr_designs.specs.Counts.{edit_counts_text}
use Rattle.clr_office_texts.specs.Drafts.{draft_in, opened_in}
use Rattle.clr_sql.specs.declared.targets.Dialect.{Dialect}
use Rattle.clr_sql.specs.declared.targets.Target.{Target}
use Rattle.clr_guarded_edits.specs.declared.fits.Unsayable.{Unsayable}
use Rattle.clr_guarded_edits.specs.declared.fits.Unsayable.TheVariants.{WktColumn, LostByte}
use Rattle.clr_guarded_edits.specs.Fits.{why_unsayable}
use Rattle.clr_guarded_edits.specs.Records.{records_text}
use Rattle.clr_guarded_edits.specs.SqlTexts.{sql_text}
use Rattle.clr_desk_errors.specs.Accepting.{IsPrintoutOfDraft}
use Rattle.clr_desk_layers.specs.Layers.{unfit_print, wkt_column_word}
use Rattle.clr_desk_layers.specs.Since.{IsFirstOther, other_schema_word}
use Rattle.clr_desk_prints.specs.Printing.{PrintoutOrFault, IsPrintoutIn, printout_of}
use Rattle.clr_desk_prints.specs.Systems.{IsInSystem}
use Rattle.clr_desk_edits.specs.declared.forms.EditsForm.{EditsForm}
use Rattle.clr_desk_edits.specs.declared.forms.EditsForm.TheVariants.{Records, Sql}

-- the text of the edits, in the form that is asked for
abbrev pub edits_text : EditsForm → List TableDef → (old new : Content) → List ℕ
edits_text Records tables old new = records_text tables old new
edits_text (Sql target) tables old new = sql_text target tables old new

-- why they can't be said in this form; as CSV they always can
abbrev pub why_not : EditsForm → List TableDef → (old new : Content) → Option Unsayable
why_not Records tables old new = None
why_not (Sql target) tables old new = why_unsayable tables old new

-- a text of the row is changed by the programs that run SQL, as a number and a word
abbrev pub lost_byte_word : List ℕ
lost_byte_word = codes "14 LostByte"

abbrev pub unsayable_print : List TableDef → Unsayable → PrintoutOrFault
unsayable_print tables (WktColumn number) = unfit_print wkt_column_word (name_of_table tables number)
unsayable_print tables (LostByte cell) = unfit_print lost_byte_word (cell_text tables cell)

-- the edits, and as a note how many rows they add, change and remove; or why they can't be said; or the first table that isn't the same in both offices
pub data IsEditsPrint (form : EditsForm) (old new : Office) (print : PrintoutOrFault) : Type 0 where
  of_edits : old.schema ≡ new.schema → why_not form new.schema old.live new.live ≡ None
      → print ≡ printout_of (edits_text form new.schema old.live new.live) (edit_counts_text (edits_between old.live new.live)) false false
      → IsEditsPrint form old new print
  of_unsayable : (why : Unsayable) → old.schema ≡ new.schema → why_not form new.schema old.live new.live ≡ Some why
      → print ≡ unsayable_print new.schema why → IsEditsPrint form old new print
  of_other_schema : (table : Name) → IsFirstOther new.schema old.schema table → print ≡ unfit_print other_schema_word table → IsEditsPrint form old new print

-- what is printed of two texts: the first is an office, whatever is broken in it; the second one in which each broken need is known. Or that one of them is
-- none
abbrev pub IsEditsAnswer : EditsForm → (old new : List ℕ) → PrintoutOrFault → Type 0
IsEditsAnswer form old new = IsPrintoutOfDraft (λ o. IsPrintoutIn (IsEditsPrint form o) (opened_in new)) (draft_in old)

-- the database whose coordinates are of this system, if one is given
abbrev pub target_of : Dialect → Place → Option ℕ → Target
target_of dialect origin code = record { dialect = dialect; system = unwrap_or code 0; origin = origin }

-- the same as SQL, in the system of coordinates that a text names, if one is given
abbrev pub IsSqlEditsAnswer : Dialect → Place → Option (List ℕ) → (old new : List ℕ) → PrintoutOrFault → Type 0
IsSqlEditsAnswer dialect origin system old new = IsInSystem (λ code. IsEditsAnswer (Sql (target_of dialect origin code)) old new) system
