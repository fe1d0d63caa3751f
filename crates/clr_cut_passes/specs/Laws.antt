-- What the counts of a pass show of a cut.
use Rattle.std.specs.Prelude.{◌↔◌, ◌<◌, ℕ, Bool, List, ◌++◌}
use Rattle.std.specs.FinMap as finite
use Rattle.clr_rows.specs.declared.cells.CellId.{CellId}
use Rattle.clr_rows.specs.Contents.{Changes, Content}
use Rattle.clr_rows.specs.Held.{Held}
use Rattle.clr_rules.specs.declared.rules.Rule.{Rule}
use Rattle.clr_needs.specs.Members.{setting}
use Rattle.clr_needs.specs.Settings.{Setting}
use Rattle.clr_row_versions.specs.Versions.{FitsSetting}
use Rattle.clr_steps.specs.Offices.{Office}
use Rattle.clr_steps.specs.Quiet.{MergeSet, root_content}
use Rattle.clr_clearance.specs.MergeSets.{setting_by_position}
use Rattle.clr_cuts.specs.Passes.{AreRowsOf}
use Rattle.clr_office_cuts.specs.OfficeCuts.{IsOfficeCut, IsOfficeOfCells, root_rows}
use Rattle.clr_reach.specs.declared.aims.Aim.{Aim}
use Rattle.clr_cut_rows.specs.Laws.{AreAllRight}
use Rattle.clr_cut_passes.specs.declared.counts.PassCounts.{PassCounts}
use Rattle.clr_cut_passes.specs.Counts.{IsClean, greatest, together}
use Rattle.clr_cut_passes.specs.Passes.{AreCountsOf, AreOfOwnCells}

-- a pass over rows of cells of their own is clean just where the cut has each of them or needs none there, and each row of the cut is one of them
abbrev pub CleanLaw : Type 0
CleanLaw = (aim : Aim) (rules : List Rule) (root : Content) (sets : List Changes) (list : List Held) (counts : PassCounts)
    → finite.len root < greatest
    → AreOfOwnCells list
    → AreCountsOf aim (setting rules root sets) list counts
    → IsClean counts (finite.len root) ↔ AreAllRight aim (setting rules root sets) list

-- the counts of passes over two lists are together those of a pass over one behind the other
abbrev pub PartsLaw : Type 0
PartsLaw = (aim : Aim) (c : Setting ℕ) (one other : List Held) (a b : PassCounts)
    → AreCountsOf aim c one a
    → AreCountsOf aim c other b
    → AreCountsOf aim c (one ++ other) (together a b)

-- an office of some cells is cut out of the whole where a pass over all rows of the whole's root, each once, is clean. Of the whole nothing else is asked
abbrev pub OfficeLaw : Type 0
OfficeLaw = (aim : Aim) (cells : CellId → Bool) (whole cut : Office) (merge_set : MergeSet) (list : List Held) (counts : PassCounts)
    → IsOfficeOfCells cells whole cut merge_set
    → FitsSetting (setting_by_position cut merge_set)
    → AreRowsOf (root_rows whole merge_set) list
    → AreOfOwnCells list
    → finite.len (root_content cut merge_set) < greatest
    → AreCountsOf aim (setting_by_position cut merge_set) list counts
    → IsClean counts (finite.len (root_content cut merge_set))
    → IsOfficeCut whole cut merge_set
