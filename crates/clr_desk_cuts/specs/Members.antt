-- The designs of a cut as a merge set of LIVE.
use Rattle.std.specs.Prelude.{◌≡◌, ◌⊎◌, List, Option, Some, None}
use Rattle.clr_rows.specs.Names.{live_name}
use Rattle.clr_workspaces.specs.Marks.{Name}
use Rattle.clr_needs.specs.declared.faults.SceneFault.{SceneFault}
use Rattle.clr_needs.specs.Members.{AreApart, IsSceneFault}
use Rattle.clr_steps.specs.Offices.{Office}
use Rattle.clr_steps.specs.Quiet.{MergeSet}
use Rattle.clr_clearance.specs.declared.verdicts.Verdict.{Verdict}
use Rattle.clr_clearance.specs.MergeSets.{change_sets}
use Rattle.clr_clearance.specs.Verdicts.{member_fault}
use Rattle.clr_merge_sets.specs.Faults.{IsMergeSetFault, verdict_of}
use Rattle.clr_merge_sets.specs.MergeSetNames.{merge_set}

-- these designs under LIVE
abbrev pub live_set : List Name → MergeSet
live_set names = merge_set live_name names

-- no test of the members fails, and no two of them change one cell
pub record AreTogether (o : Office) (s : MergeSet) : Type 0 where
  pub free : member_fault o s ≡ None
  pub apart : AreApart (change_sets o s)

-- two of the members change one cell, or memory ran out
abbrev pub IsSharedFault : Office → MergeSet → Verdict → Type 0
IsSharedFault o s v = (fault : SceneFault) × IsSceneFault (change_sets o s) fault × (v ≡ verdict_of fault)

abbrev pub IsMemberAnswer : Office → MergeSet → Option Verdict → Type 0
IsMemberAnswer o s None = AreTogether o s
IsMemberAnswer o s (Some v) = IsMergeSetFault o s v ⊎ IsSharedFault o s v
