-- What contents differ in fits the schema that they fit, and makes the one of the other.
use Rattle.std.proofs.Common.{◌≡◌, ℕ, suc, Bool, true, false, cond, not, List, [], ◌∷◌, map, Option, Some, None, refl, sym, ap, ◌∙◌}
use Rattle.std.specs.FinMap as finite
use Rattle.std.specs.List.{AllByRecursion}
use Rattle.std.specs.Option.{option_map}
use Rattle.clr_rows.specs.declared.cells.CellId.{CellId}
use Rattle.clr_rows.specs.declared.rows.Row.{Row}
use Rattle.clr_rows.specs.declared.tables.TableDef.{TableDef}
use Rattle.clr_rows.specs.Cells.{cell_cmp}
use Rattle.clr_rows.specs.Contents.{Content, change_of, changes, is_changed, over, row_at, rows_after}
use Rattle.clr_rows.specs.Same.{same}
use Rattle.clr_rows.specs.Schemas.{FitsSchema, cell_fault}
use Rattle.clr_rows.proofs.ChangeLemmas.{after_of, find-rows_after, get-changes, taken_over-own}
use Rattle.clr_rows.proofs.SchemaLemmas.{cell_named, fits_table}
use Rattle.clr_deltas.specs.Differences.{differences_from, seen_over}
use Rattle.clr_deltas.proofs.SweepLemmas.{after_sorted, listed-differences}
use Rattle.clr_deltas.specs.Differing.{delta_from, mark_from}
use Rattle.clr_deltas.specs.Deltas.{whole_mark, whole_of}
use Rattle.clr_workspaces.specs.Marks.{Mark, Saved, ChildMark, mark_at, saved_content}
use Rattle.clr_workspaces.specs.Workspaces.{Workspace}
use Rattle.clr_steps.specs.Invariants.{WorkspaceFits}
use Rattle.clr_office_reading.specs.Fits.{FitsDifferences, FitsDelta, FitsMark}
use Rattle.clr_office_reading.specs.Patches.{put_fault}

-- the differences of two contents fit the schema ---------------------------------------------

module _ (tables : List TableDef) (below content : Content) (q : CellId) where
  gone_fits : (before : Option Row) → row_at below q ≡ before → not (same before None) ≡ true → FitsSchema tables below → cell_fault tables q ≡ None
  unfolding same
  gone_fits None is changed fits = cc
  gone_fits (Some row) is changed fits = let t = fits_table tables q row (fits q row is) in cell_named tables q t.0 t.1 t.2.key

  after_fits : (after : Option Row) → row_at content q ≡ after → not (same (row_at below q) after) ≡ true → FitsSchema tables below → FitsSchema tables content
      → put_fault tables q after ≡ None
  after_fits None is changed from to = gone_fits (row_at below q) refl changed from
  after_fits (Some row) is changed from to = to q row is

  change_fits : (b : Bool) (x : Option Row) → is_changed below content q ≡ b → option_map after_of (cond b (Some (change_of below content q)) None) ≡ Some x
      → FitsSchema tables below → FitsSchema tables content → put_fault tables q x ≡ None
  change_fits true x changed is from to =
      let e : row_at content q ≡ x = cc in
      after_fits x e (ap (λ after. not (same (row_at below q) after)) (sym e) ∙ changed) from to
  change_fits false x changed is from to = cc

get-differences : (below content : Content) (q : CellId) → finite.get (differences_from below content) q
    ≡ option_map after_of (cond (is_changed below content q) (Some (change_of below content q)) None)
get-differences below content q =
    finite.get-from_sorted cell_cmp (rows_after (changes below content)) q (after_sorted (changes below content)) ∙ find-rows_after (changes below content) q
    ∙ ap (option_map after_of) (get-changes below content q)

differences_fit : (tables : List TableDef) (below content : Content) → FitsSchema tables below → FitsSchema tables content
    → FitsDifferences tables (differences_from below content)
differences_fit tables below content from to q x is = change_fits tables below content q (is_changed below content q) x refl
    (sym (get-differences below content q) ∙ is) from to

marks_fit : (tables : List TableDef) (base : Content) (marks : List Mark) → FitsSchema tables base
    → ((i : ℕ) → FitsSchema tables (saved_content (mark_at marks i))) → AllByRecursion (FitsMark tables) (map (mark_from base) marks)
marks_fit tables base [] from saved = tt
marks_fit tables base (Saved name content ∷ marks) from saved = (
  differences_fit tables base content from (saved 0),
  marks_fit tables base marks from
      (λ i. saved (suc i)),
)
marks_fit tables base (ChildMark name ∷ marks) from saved = (tt, marks_fit tables base marks from (λ i. saved (suc i)))

pub delta_fits : (tables : List TableDef) (above : Content) (w : Workspace) → FitsSchema tables above → WorkspaceFits tables w
    → FitsDelta tables (delta_from above w)
delta_fits tables above w from fits = record {
  base = differences_fit tables above w.base from fits.base;
  current = differences_fit tables w.base w.current fits.base fits.current;
  marks = marks_fit tables w.base w.marks fits.base fits.saved;
}

-- the differences make one content of the other ----------------------------------------------

made : (below content : Content) → seen_over below (differences_from below content) ≡ content
unfolding seen_over
made below content = ap (over below) (listed-differences below content) ∙ taken_over-own below content

marks_made : (base : Content) (marks : List Mark) → map (whole_mark base) (map (mark_from base) marks) ≡ marks
marks_made base [] = refl
marks_made base (Saved name content ∷ marks) = (λ i. Saved name (made base content i) ∷ marks_made base marks i)
marks_made base (ChildMark name ∷ marks) = ap (λ ms. ChildMark name ∷ ms) (marks_made base marks)

pub delta_made : (above : Content) (w : Workspace) → whole_of above (delta_from above w) ≡ w
unfolding whole_of
delta_made above w = rw (made above w.base, made w.base w.current, marks_made w.base w.marks) refl
