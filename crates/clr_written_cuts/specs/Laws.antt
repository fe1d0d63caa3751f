-- What holds in a network into which the edits of a plan over a cut were written.
use Rattle.std.specs.Prelude.{◌≡◌, true, Contains, List, Some}
use Rattle.clr_rows.specs.declared.tables.TableDef.{TableDef}
use Rattle.clr_rows.specs.Contents.{Changes, Content, row_at}
use Rattle.clr_rules.specs.declared.rules.Rule.{Rule}
use Rattle.clr_rules.specs.Needs.{BreaksNoMore, Holds}
use Rattle.clr_needs.specs.Covers.{AreCovered, Entry}
use Rattle.clr_needs.specs.Members.{setting}
use Rattle.clr_needs.specs.Settings.{AreDisjoint}
use Rattle.clr_reach.specs.declared.aims.Aim.{Aim}
use Rattle.clr_cut_rows.specs.Laws.{IsCutFor}
use Rattle.clr_guarded_edits.specs.Runs.{Passes, after_statements}
use Rattle.clr_guarded_edits.specs.Statements.{statements_between}
use Rattle.clr_written_cuts.specs.Merged.{AreMergedRows}

-- passes that print no row and find none otherwise show that the old rows are a cut of the network as it is now (clr_cut_streams: TablesLaw)
abbrev pub ShowACut : Aim → List Rule → List Changes → (old content : Content) → List TableDef → Passes → Type 0
ShowACut aim rules sets old content tables passes = ((table : TableDef) → Contains tables table → passes content table ≡ true)
    → IsCutFor aim (setting rules old sets) (row_at content)

-- the network breaks no need but those that it broke before, and where every rule held, every rule holds
pub record IsWrittenWell (rules : List Rule) (content left : Content) : Type 0 where
  pub no_more : BreaksNoMore rules (row_at content) (row_at left)
  pub holds : Holds rules (row_at content) → Holds rules (row_at left)

-- designs that a certificate clears over a cut, no two of which change one cell, and whose merges left new rows: if the transaction from the old rows to the
-- new ones writes anything, it leaves a network that breaks no more. The network may have changed since the cut was made, as long as the statements let it
-- through
abbrev pub WrittenBackLaw : Type 0
WrittenBackLaw = (aim : Aim) (rules : List Rule) (tables : List TableDef) (sets : List Changes) (old new content left : Content) (es : List Entry)
    (passes : Passes)
    → AreDisjoint (setting rules old sets)
    → AreCovered (setting rules old sets) es
    → AreMergedRows rules old sets new
    → ShowACut aim rules sets old content tables passes
    → after_statements passes content (statements_between tables old new) ≡ Some left
    → IsWrittenWell rules content left
