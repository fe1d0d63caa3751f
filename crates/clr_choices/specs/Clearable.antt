-- Members of a root that can be cleared together.
use Rattle.std.specs.Prelude.{◌≡◌, ◌↔◌, true, false, List, None}
use Rattle.clr_workspaces.specs.Marks.{Name}
use Rattle.clr_steps.specs.Offices.{Office}
use Rattle.clr_steps.specs.Quiet.{MergeSet, is_member}
use Rattle.clr_clearance.specs.Safety.{Safe}
use Rattle.clr_clearance.specs.MergeSets.{AreMergeable, KeepsRules, MembersBreakNoMore, RootHolds}
use Rattle.clr_clearance.specs.Verdicts.{names_fault, repeated_member}
use Rattle.clr_merge_sets.specs.MergeSetNames.{merge_set}
use Rattle.clr_merge_sets.specs.declared.plans.Plan.{Plan}
use Rattle.clr_plan.specs.Certificates.{IsReadableWhereCleared}
use Rattle.clr_plan.specs.Plans.{IsPlan}
use Rattle.clr_merge_sets.specs.Plans.{is_cleared, is_out_of_memory}
use Rattle.clr_plan.specs.Promises.{IsExact, Promises, StaysCleared}

-- no test of names fails; the members are mergeable, and no more is broken where more of them are merged, so that every rule holds whichever of them are
-- merged, where every rule holds in the root; they are safe; and each plan of them for which memory was found is cleared
pub record AreClearable (o : Office) (s : MergeSet) : Type 0 where
  pub named : names_fault o s ≡ None
  pub mergeable : AreMergeable o s
  pub no_more : MembersBreakNoMore o s
  pub keeps : RootHolds o s → KeepsRules o s
  pub safe : Safe o s
  pub cleared : (p : Plan) → IsPlan o s p → is_out_of_memory p ≡ false → is_cleared p ≡ true

-- the plan of members of a root, with what it promises
pub record IsPlanOf (o : Office) (s : MergeSet) (p : Plan) : Type 0 where
  pub plan : IsPlan o s p
  pub promises : Promises o s p
  pub exact : IsExact o s p
  pub lasts : StaysCleared o s p
  pub readable : IsReadableWhereCleared o p

-- a plan for which memory was found is cleared exactly where its members are clearable
abbrev pub PlansTellClearable : Type 0
PlansTellClearable = (o : Office) (s : MergeSet) (p : Plan) → IsPlanOf o s p → is_out_of_memory p ≡ false → (is_cleared p ≡ true) ↔ AreClearable o s

-- some of the members, in whichever order, are clearable too, where none is named twice
abbrev pub PartsStayClearable : Type 0
PartsStayClearable = (o : Office) (s : MergeSet) (names : List Name)
    → AreClearable o s
    → ((name : Name) → is_member (merge_set s.root names) name ≡ true → is_member s name ≡ true)
    → repeated_member (merge_set s.root names) ≡ None
    → AreClearable o (merge_set s.root names)
