-- Whole workspaces fit the schema where their differences and LIVE do.
use Rattle.std.proofs.Common.{◌≡◌, ℕ, zero, suc, true, false, Bool, cond, List, [], ◌∷◌, ◌++◌, map, Option, Some, None, unwrap_or, refl, sym, subst, ◌∙◌}
use Rattle.std.proofs.lemmas.Option.{none-some, same_Some}
use Rattle.std.specs.FinMap as finite
use Rattle.std.specs.List.{AllByRecursion}
use Rattle.std.specs.Str.{bytes_eq}
use Rattle.clr_rows.specs.declared.cells.CellId.{CellId}
use Rattle.clr_rows.specs.declared.rows.Row.{Row}
use Rattle.clr_rows.specs.declared.tables.TableDef.{TableDef}
use Rattle.clr_rows.specs.Contents.{Content, no_rows, row_at}
use Rattle.clr_rows.specs.Schemas.{FitsSchema, row_fault}
use Rattle.clr_rows.proofs.FitLemmas.{none_fit}
use Rattle.clr_deltas.specs.Differences.{Differences, seen_over}
use Rattle.clr_deltas.proofs.DifferenceLemmas.{row-seen_over}
use Rattle.clr_deltas.specs.Deltas.{Delta, grow, content_by_name, whole_mark, whole_of, workspaces_over}
use Rattle.clr_workspaces.specs.Marks.{Name, mark_at, saved_content}
use Rattle.clr_workspaces.specs.Workspaces.{Workspace, live_workspace, workspace_at}
use Rattle.clr_deltas.specs.declared.stored_marks.StoredMark.{StoredMark}
use Rattle.clr_deltas.specs.declared.stored_marks.StoredMark.TheVariants as stored
use Rattle.clr_steps.specs.Invariants.{WorkspaceFits}
use Rattle.clr_office_reading.specs.Fits.{FitsDifferences, FitsDelta, FitsMark}
use Rattle.clr_office_reading.specs.Patches.{put_fault}

module _ (tables : List TableDef) where
  seen_fits : (below : Content) (d : Differences) → FitsSchema tables below → FitsDifferences tables d → FitsSchema tables (seen_over below d)
  seen_fits below d rows differences = λ cell row e. by cell row (finite.get d cell) (differences cell) (sym (row-seen_over below d cell) ∙ e)
    where
      by : (cell : CellId) (row : Row) (difference : Option (Option Row)) → ((one : Option Row) → difference ≡ Some one → put_fault tables cell one ≡ None)
          → unwrap_or difference (row_at below cell) ≡ Some row → row_fault tables cell row ≡ None
      by cell row None good e = rows cell row e
      by cell row (Some None) good e = absurd (none-some row e)
      by cell row (Some (Some r)) good e = subst (λ (x : Row). row_fault tables cell x ≡ None) (same_Some r row e) (good (Some r) refl)

  mark_fits : (base : Content) (mark : StoredMark) → FitsSchema tables base → FitsMark tables mark → FitsSchema tables (saved_content (whole_mark base mark))
  mark_fits base (stored.Saved name d) rows fits = seen_fits base d rows fits
  mark_fits base (stored.Child name) rows fits = none_fit tables

  marks_fit : (base : Content) (marks : List StoredMark) → FitsSchema tables base → AllByRecursion (FitsMark tables) marks → (i : ℕ)
      → FitsSchema tables (saved_content (mark_at (map (whole_mark base) marks) i))
  marks_fit base [] rows all zero = none_fit tables
  marks_fit base [] rows all (suc i) = none_fit tables
  marks_fit base (mark ∷ marks) rows all zero = mark_fits base mark rows all.0
  marks_fit base (mark ∷ marks) rows all (suc i) = marks_fit base marks rows all.1 i

  whole_fits : (above : Content) (l : Delta) → FitsSchema tables above → FitsDelta tables l → WorkspaceFits tables (whole_of above l)
  unfolding whole_of
  whole_fits above l rows fits =
      let base = seen_fits above l.base rows fits.base in
      record {
        base = base;
        current = seen_fits (seen_over above l.base) l.current base fits.current;
        saved = marks_fit (seen_over above l.base) l.marks base
            fits.marks;
      }

  -- what the workspaces before a delta see
  abbrev CurrentsFit : List Workspace → Type 0
  CurrentsFit ws = AllByRecursion (λ (w : Workspace). FitsSchema tables w.current) ws

  named_fits : (ws : List Workspace) (name : Name) → CurrentsFit ws → FitsSchema tables (unwrap_or (content_by_name ws name) no_rows)
  unfolding content_by_name
  named_fits [] name all = none_fit tables
  named_fits (w ∷ ws) name all = by (bytes_eq name w.name) (named_fits ws name all.1)
    where
      by : (is : Bool) → FitsSchema tables (unwrap_or (content_by_name ws name) no_rows)
          → FitsSchema tables (unwrap_or (cond is (Some w.current) (content_by_name ws name)) no_rows)
      by true others = all.0
      by false others = others

  one_more : (ws : List Workspace) (w : Workspace) → CurrentsFit ws → FitsSchema tables w.current → CurrentsFit (ws ++ w ∷ [])
  one_more [] w all one = (one, tt)
  one_more (v ∷ ws) w all one = (all.0, one_more ws w all.1 one)

  none_fits : (i : ℕ) → WorkspaceFits tables (workspace_at [] i)
  none_fits zero = record { base = none_fit tables; current = none_fit tables; saved = marks_fit no_rows [] (none_fit tables) tt }
  none_fits (suc i) = record { base = none_fit tables; current = none_fit tables; saved = marks_fit no_rows [] (none_fit tables) tt }

  first_fits : (w : Workspace) (ws : List Workspace) → WorkspaceFits tables w → ((i : ℕ) → WorkspaceFits tables (workspace_at ws i)) → (i : ℕ)
      → WorkspaceFits tables (workspace_at (w ∷ ws) i)
  first_fits w ws one all zero = one
  first_fits w ws one all (suc i) = all i

  grow_fits : (ws : List Workspace) (ls : List Delta) → CurrentsFit ws → AllByRecursion (FitsDelta tables) ls → (i : ℕ)
      → WorkspaceFits tables (workspace_at (grow ws ls) i)
  unfolding grow
  grow_fits ws [] currents all = none_fits
  grow_fits ws (l ∷ ls) currents all =
      let w : Workspace = whole_of (unwrap_or (content_by_name ws l.parent) no_rows) l in
      let one = whole_fits (unwrap_or (content_by_name ws l.parent) no_rows) l (named_fits ws l.parent currents) all.0 in
      first_fits w (grow (ws ++ w ∷ []) ls) one (grow_fits (ws ++ w ∷ []) ls (one_more ws w currents one.current) all.1)

  pub all_fit : (live : Content) (ls : List Delta) → FitsSchema tables live → AllByRecursion (FitsDelta tables) ls → (i : ℕ)
      → WorkspaceFits tables (workspace_at (workspaces_over live ls) i)
  all_fit live ls rows all = grow_fits (live_workspace live ∷ []) ls (rows, tt) all
