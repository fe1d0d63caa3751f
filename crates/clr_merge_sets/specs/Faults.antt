-- Why the parts of a merge set aren't read: a test of members that fails, or want of memory where no test of names fails; and the verdict where they
-- make no scene.
use Rattle.std.specs.Prelude.{◌≡◌, Bool, true, false, Option, Some, None}
use Rattle.clr_needs.specs.declared.faults.SceneFault.{SceneFault}
use Rattle.clr_needs.specs.declared.faults.SceneFault.TheVariants as scene
use Rattle.clr_steps.specs.Offices.{Office}
use Rattle.clr_steps.specs.Quiet.{MergeSet}
use Rattle.clr_clearance.specs.declared.verdicts.Verdict.{Verdict}
use Rattle.clr_clearance.specs.declared.verdicts.Verdict.TheVariants as verdict
use Rattle.clr_clearance.specs.Verdicts.{member_fault, names_fault}

-- the first that fails of the tests that look at one member at a time
pub data IsMergeSetFault (o : Office) (s : MergeSet) (v : Verdict) : Type 0 where
  of_member : member_fault o s ≡ Some v → IsMergeSetFault o s v
  without_memory : names_fault o s ≡ None → v ≡ verdict.OutOfMemory → IsMergeSetFault o s v

-- what is said where change sets make no scene
abbrev pub verdict_of : SceneFault → Verdict
verdict_of (scene.SharedCell cell first second) = verdict.SharedCell cell first second
verdict_of scene.OutOfMemory = verdict.OutOfMemory

-- the fault is that of a test of names that comes before the one of precedences
abbrev pub is_told_first : Option Verdict → Bool
is_told_first (Some verdict.NotKept) = true
is_told_first (Some (verdict.RepeatedMember at)) = true
is_told_first _ = false
