-- Workspaces that are written by their differences are read back, one after another.
use Rattle.std.proofs.Common.{◌≡◌, true, codes, List, [], ◌∷◌, ◌++◌, map, None, Ok, refl, sym, ap, ◌∙◌, append_assoc}
use Rattle.std.proofs.lemmas.List.{append-nil}
use Rattle.std.specs.List.{AllByRecursion}
use Rattle.serde_json.specs.Data.{Data}
use Rattle.serde_json.specs.Find.{get}
use Rattle.serde_json.specs.View.{items_of}
use Rattle.clr_rows.specs.declared.tables.TableDef.{TableDef}
use Rattle.clr_rows.specs.Schemas.{schema_fault}
use Rattle.clr_deltas.specs.Deltas.{Delta}
use Rattle.clr_deltas.specs.declared.stored_marks.StoredMark.{StoredMark}
use Rattle.clr_deltas.specs.declared.stored_marks.StoredMark.TheVariants as stored
use Rattle.clr_rule_text.specs.declared.formats.Format.{Format}
use Rattle.clr_office_reading.specs.declared.named_marks.NamedMark.{NamedMark}
use Rattle.clr_rule_text.specs.Fields.{each, each_in, flag_or_not}
use Rattle.clr_office_reading.specs.Fits.{FitsDelta, FitsMark}
use Rattle.clr_office_reading.specs.Patches.{differences_at, named_cells_at}
use Rattle.clr_office_reading.specs.Workspaces.{head_of, delta_of, deltas_after, kept_of, mark_over, marks_of, named_mark_of, named_marks_of, saved_of, stands_in}
use Rattle.clr_office_writing.specs.Laws.{HaveParents}
use Rattle.clr_office_writing.specs.WorkspaceData.{delta_data, named_mark, named_mark_data}
use Rattle.clr_office_writing.proofs.ListsRead.{all_mapped, each_found, each_read}
use Rattle.clr_office_writing.proofs.CellsRead.{cells_again, cells_read}

module _ (tables : List TableDef) (schema : schema_fault tables ≡ None) where
  -- marks ------------------------------------------------------------------------------------

  abbrev IsRead : NamedMark → Type 0
  IsRead mark = named_mark_of tables (named_mark_data mark) ≡ Ok mark

  mark_read : (mark : StoredMark) → FitsMark tables mark → IsRead (named_mark tables mark)
  unfolding named_mark_of saved_of named_cells_at
  mark_read (stored.Saved name d) fits = rw (cells_read tables schema d fits) refl
  mark_read (stored.Child name) fits = refl

  mark_again : (mark : StoredMark) → FitsMark tables mark → mark_over tables (named_mark tables mark) ≡ Ok mark
  mark_again (stored.Saved name d) fits = rw (cells_again tables schema d fits) refl
  mark_again (stored.Child name) fits = refl

  marks_read : (marks : List StoredMark) → AllByRecursion (FitsMark tables) marks
      → each (named_mark_of tables) (items_of (map named_mark_data (map (named_mark tables) marks))) ≡ Ok (map (named_mark tables) marks)
  marks_read marks fits =
      each_read IsRead (named_mark_of tables) named_mark_data (λ mark is. is) (map (named_mark tables) marks)
      (all_mapped (FitsMark tables) IsRead (named_mark tables) mark_read marks fits)

  marks_again : (marks : List StoredMark) → AllByRecursion (FitsMark tables) marks → each_in (mark_over tables) (map (named_mark tables) marks) ≡ Ok marks
  marks_again marks fits = each_found (FitsMark tables) (mark_over tables) (named_mark tables) mark_again marks fits

  -- workspaces -------------------------------------------------------------------------------

  -- in a format in which workspaces are kept
  module _ (format : Format) (keeps : (d : Data) → kept_of format d ≡ flag_or_not (get (codes "kept") d)) where
    delta_read_again : (earlier : List Delta) (l : Delta) → FitsDelta tables l → stands_in earlier l.parent ≡ true
        → delta_of format tables earlier (delta_data tables l) ≡ Ok l
    unfolding delta_of head_of differences_at named_cells_at marks_of named_marks_of
    delta_read_again earlier l fits stands =
        rw (
          keeps (delta_data tables l),
          stands,
          cells_read tables schema l.base fits.base,
          cells_again tables schema l.base fits.base,
          cells_read tables schema l.current fits.current,
          cells_again tables schema l.current fits.current,
          marks_read l.marks fits.marks,
          marks_again l.marks fits.marks,
        ) refl

    pub deltas_read : (earlier ls : List Delta) → AllByRecursion (FitsDelta tables) ls → HaveParents earlier ls
        → deltas_after format tables earlier (items_of (map (delta_data tables) ls)) ≡ Ok (earlier ++ ls)
    unfolding deltas_after
    deltas_read earlier [] fits under = ap (λ xs. Ok xs) (sym (append-nil earlier))
    deltas_read earlier (l ∷ ls) fits under =
        rw (delta_read_again earlier l fits.0 under.0)
        (deltas_read (earlier ++ l ∷ []) ls fits.1 under.1 ∙ ap (λ xs. Ok xs) (append_assoc earlier (l ∷ []) ls))
