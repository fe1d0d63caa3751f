-- The rows of a cause in words.
use Rattle.std.specs.Prelude.{ℕ, List, [], ◌∷◌, ◌++◌, Option, Some, None, codes}
use Rattle.clr_rows.specs.declared.cells.CellId.{CellId}
use Rattle.clr_rows.specs.declared.rows.Row.{Row}
use Rattle.clr_rows.specs.declared.tables.TableDef.{TableDef}
use Rattle.clr_rows.specs.Contents.{Changes, row_at}
use Rattle.clr_needs.specs.declared.needs.VersionId.{VersionId}
use Rattle.clr_steps.specs.Offices.{Office, content_of}
use Rattle.clr_steps.specs.Quiet.{MergeSet}
use Rattle.clr_member_changes.specs.Names.{member_name}
use Rattle.clr_phrases.specs.Rows.{row_words}
use Rattle.clr_member_changes.specs.declared.standings.Standing.{Standing}
use Rattle.clr_member_changes.specs.declared.standings.Standing.TheVariants as standing
use Rattle.clr_plan_sentences.specs.declared.told_rows.RowWords.{RowWords}
use Rattle.clr_plan_sentences.specs.Labels.{cell_label}
use Rattle.clr_member_changes.specs.Versions.{set_row, standing_of}

-- a row of the root, and what a member does with it
abbrev pub touched_text : MergeSet → ℕ → List ℕ → List ℕ
touched_text s at what = codes "stands in " ++ s.root ++ codes ", and " ++ member_name s.members at ++ what

-- where a row stands
abbrev pub standing_text : MergeSet → Standing → List ℕ
standing_text s standing.Stays = codes "stands in " ++ s.root
standing_text s (standing.Changed at) = touched_text s at (codes " changes it")
standing_text s (standing.Removed at) = touched_text s at (codes " takes it away")
standing_text s (standing.New at) = codes "new in " ++ member_name s.members at
standing_text s (standing.TakenOver at) = codes "in " ++ s.root ++ codes " when " ++ member_name s.members at ++ codes " took it over"
standing_text s standing.Now = codes "in " ++ s.root ++ codes " now"

-- the values and the place of a row, if there is one
abbrev pub row_text : List TableDef → CellId → Option Row → List ℕ
row_text tables q None = codes "no row"
row_text tables q (Some row) = row_words tables q row

-- a row of a cell: its table and key, where it stands, and its values and its place
abbrev pub told_row : Office → MergeSet → CellId → Option Row → Standing → RowWords
told_row o s q row standing = record { label = cell_label o.schema q; standing = standing_text s standing; words = row_text o.schema q row }

-- the row that a member took over at a cell, the one that the root has now, and the one that the member has
abbrev pub row_taken_over : Office → MergeSet → List Changes → CellId → ℕ → RowWords
row_taken_over o s sets q member = told_row o s q (set_row (λ e. e.before) sets member q) (standing.TakenOver member)

abbrev pub row_now : Office → MergeSet → CellId → RowWords
row_now o s q = told_row o s q (row_at (content_of o s.root) q) standing.Now

abbrev pub row_of_member : Office → MergeSet → List Changes → CellId → ℕ → RowWords
row_of_member o s sets q member = told_row o s q (set_row (λ e. e.after) sets member q) (standing.New member)

-- the row that a version has, as it stands
abbrev pub row_of_version : Office → MergeSet → List Changes → VersionId → Option Row → RowWords
row_of_version o s sets v row = told_row o s v.cell row (standing_of sets v)

abbrev pub row_of_second : Office → MergeSet → List Changes → Option VersionId → Option Row → List RowWords
row_of_second o s sets None row = []
row_of_second o s sets (Some v) row = row_of_version o s sets v row ∷ []
