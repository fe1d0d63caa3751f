-- What is said of the independence of a merge set's members.
use Rattle.std.specs.Prelude.{◌≡◌, ℕ, Some, None, length}
use Rattle.clr_rows.specs.declared.cells.CellId.{CellId}
use Rattle.clr_needs.specs.declared.faults.SceneFault.TheVariants as scene
use Rattle.clr_needs.specs.Members.{AreApart, IsSceneFault}
use Rattle.clr_steps.specs.Offices.{Office}
use Rattle.clr_steps.specs.Quiet.{MergeSet}
use Rattle.clr_clearance.specs.declared.verdicts.Verdict.{Verdict}
use Rattle.clr_clearance.specs.declared.verdicts.Verdict.TheVariants as verdict
use Rattle.clr_clearance.specs.MergeSets.{change_sets, setting_by_position}
use Rattle.clr_clearance.specs.Verdicts.{member_fault}
use Rattle.clr_independence.specs.declared.independent_members.Independence.{Independence}
use Rattle.clr_independence.specs.declared.independent_members.Independence.TheVariants as said
use Rattle.clr_independence.specs.Pairs.{ArePairs}

-- the first test of members that fails: all tests but that of needs
pub data IsUnfitFor (o : Office) (s : MergeSet) (v : Verdict) : Type 0 where
  of_member : member_fault o s ≡ Some v → IsUnfitFor o s v
  of_cell : (cell : CellId) (i j : ℕ) → member_fault o s ≡ None → IsSceneFault (change_sets o s) (scene.SharedCell cell i j)
      → v ≡ verdict.SharedCell cell i j → IsUnfitFor o s v

-- the first test of members that fails, or all pairs of members, by position
abbrev pub IsIndependenceOf : Office → MergeSet → Independence → Type 0
IsIndependenceOf o s (said.Unfit v) = IsUnfitFor o s v
IsIndependenceOf o s (said.Pairs pairs) =
    (member_fault o s ≡ None) × AreApart (change_sets o s) × ArePairs (setting_by_position o s) (length s.members) pairs.items
