-- Members whose changes were read.
use Rattle.std.proofs.Common.{◌≡◌, ◌∙◌, Bor, List, ap, map, refl, sym}
use Rattle.clr_workspaces.specs.Marks.{Name}
use Rattle.clr_steps.specs.Offices.{Office}
use Rattle.clr_steps.specs.Readings.{changes_in}
use Rattle.clr_member_changes.specs.declared.member_changes.MemberChanges.{MemberChanges}
use Rattle.clr_merge_sets.specs.MemberChanges.{AreMembers, set_of}
use Rattle.clr_merge_sets.specs.MergeSetNames.{merge_set}

-- what is read of the members of a merge set is read of the value's own
pub of_value : (o : Office) (root : Name) (names : List Name) (m : MemberChanges) → AreMembers o (merge_set root names) m
    → map (λ (name : Bor Name). name.now) m.names.now ≡ names → AreMembers o (set_of m) m
of_value o root names m are named = record { root = refl; changes = are.changes ∙ ap (map (changes_in o)) (sym named) }
