-- The row of a version, by how it is read.
use Rattle.std.proofs.Common.{◌≡◌, ◌∙◌, ℕ, true, false, List, Option, None, Some, ap, refl, sym}
use Rattle.std.specs.Prelude.{slice_get}
use Rattle.std.specs.FinMap as finite
use Rattle.std.specs.Option.{option_map}
use Rattle.clr_rows.specs.declared.cells.CellId.{CellId}
use Rattle.clr_rows.specs.declared.cells.Change.{Change}
use Rattle.clr_rows.specs.declared.rows.Row.{Row}
use Rattle.clr_rows.specs.Contents.{Changes, row_at}
use Rattle.clr_workspaces.specs.Marks.{Name}
use Rattle.clr_needs.specs.declared.needs.VersionId.{VersionId}
use Rattle.clr_needs.specs.Members.{after_at, after_of, positions}
use Rattle.clr_needs.specs.Settings.{Lived, first_changer, new_row, new_version, old_version, version}
use Rattle.clr_steps.specs.Offices.{Office, content_of}
use Rattle.clr_steps.specs.Quiet.{MergeSet, root_content}
use Rattle.clr_clearance.specs.MergeSets.{change_sets}
use Rattle.clr_member_changes.specs.Versions.{change_row, new_row_at, row_by, row_of_changer}
use Rattle.clr_merge_sets.specs.MemberChanges.{row_in}

-- the row of a version that a member of a position brings
new_is : (sets : List Changes) (q : CellId) (at : Option ℕ) → option_map (λ (l : Lived ℕ). l.row) (new_version (after_of sets) q at) ≡ row_of_changer sets q at
new_is sets q None = refl
new_is sets q (Some n) = by (slice_get sets n)
  where
    last : (r : Option Row) → option_map (λ (l : Lived ℕ). l.row) (new_row n (Some r)) ≡ r
    last None = refl
    last (Some row) = refl

    change : (r : Option Change) → option_map (λ (l : Lived ℕ). l.row) (new_row n (option_map (λ (e : Change). e.after) r)) ≡ row_by (λ e. e.after) r
    change None = refl
    change (Some e) = last e.after

    by : (r : Option Changes) → option_map (λ (l : Lived ℕ). l.row) (new_row n (after_at r q)) ≡ change_row (λ e. e.after) r q
    by None = refl
    by (Some set) = change (finite.get set q)

old_is : (at : Option ℕ) (row : Option Row) → option_map (λ (l : Lived ℕ). l.row) (old_version at row) ≡ row
old_is at None = refl
old_is at (Some row) = refl

pub new_row_is : (o : Office) (s : MergeSet) (v : VersionId) (sets : List Changes) (row : Option Row) → sets ≡ change_sets o s → v.fresh ≡ true
    → row ≡ new_row_at sets v.cell → row ≡ row_in o s v
unfolding version
new_row_is o s v sets row are fresh e =
    e ∙ ap (λ (ss : List Changes). new_row_at ss v.cell) are ∙ sym (rw fresh (new_is (change_sets o s) v.cell (first_changer (after_of (change_sets o s))
    (positions (change_sets o s)) v.cell)))

pub old_row_is : (o : Office) (s : MergeSet) (v : VersionId) (root : Name) (row : Option Row) → root ≡ s.root → v.fresh ≡ false
    → row ≡ row_at (content_of o root) v.cell → row ≡ row_in o s v
unfolding version root_content
old_row_is o s v root row is stale e =
    e ∙ ap (λ (r : Name). row_at (content_of o r) v.cell) is ∙ sym (rw stale (old_is (first_changer (after_of (change_sets o s)) (positions (change_sets o
    s)) v.cell) (row_at (content_of o s.root) v.cell)))
