-- Maps of members whose changes were read.
use Rattle.std.proofs.Common.{◌≡◌, Bor, List, ℕ, map, subst, subst₂}
use Rattle.clr_workspaces.specs.Marks.{Name}
use Rattle.clr_steps.specs.Offices.{Office}
use Rattle.clr_member_changes.specs.declared.member_changes.MemberChanges.{MemberChanges}
use Rattle.clr_merge_sets.specs.MemberChanges.{AreMembers, set_of}
use Rattle.clr_merge_sets.specs.MergeSetNames.{merge_set}
use Rattle.clr_merge_sets.specs.declared.plans.Plan.{Plan}
use Rattle.clr_plan_page.specs.Maps.{IsMap, IsMapOfChanges}
use Rattle.clr_merge_sets.proofs.ReadLemmas.{of_value}

-- the map of the changes that were read is that of the members
pub map_of_read : (o : Office) (root : Name) (names : List Name) (m : MemberChanges) (p : Plan) (text : List ℕ) → AreMembers o (merge_set root names) m
    → map (λ (name : Bor Name). name.now) m.names.now ≡ names → IsMapOfChanges o (set_of m) m.changes.items p text → IsMap o (merge_set root names) p text
map_of_read o root names m p text read named is =
    subst₂ (λ (members : List Name) (root : Name). IsMap o (merge_set root members) p text) named read.root
    (subst (λ sets. IsMapOfChanges o (set_of m) sets p text) (of_value o root names m read named).changes is)
