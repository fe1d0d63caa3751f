-- What the scene of a merge set says of its members.
use Rattle.std.proofs.Common.{◌≡◌, ◌∙◌, ℕ, List, None, ap, length, refl, subst, sym}
use Rattle.std.proofs.lemmas.List.{length-map}
use Rattle.std.proofs.lemmas.List.FromFn.{length-range_with_len}
use Rattle.clr_rows.specs.Contents.{Changes, Content}
use Rattle.clr_rules.specs.declared.rules.Rule.{Rule}
use Rattle.clr_needs.specs.declared.faults.SceneFault.{SceneFault}
use Rattle.clr_needs.specs.declared.faults.SceneFault.TheVariants as scene
use Rattle.clr_needs.specs.Members.{IsSceneFault, setting}
use Rattle.clr_needs.specs.Settings.{Setting}
use Rattle.clr_steps.specs.Offices.{Office}
use Rattle.clr_steps.specs.Quiet.{MergeSet}
use Rattle.clr_steps.specs.Readings.{changes_in}
use Rattle.clr_clearance.specs.declared.verdicts.Verdict.{Verdict}
use Rattle.clr_clearance.specs.declared.verdicts.Verdict.TheVariants as verdict
use Rattle.clr_clearance.specs.MergeSets.{change_sets, setting_by_position}
use Rattle.clr_clearance.specs.Verdicts.{member_fault}
use Rattle.clr_merge_sets.specs.Faults.{IsMergeSetFault, of_member as fault_of_member, verdict_of, without_memory}
use Rattle.clr_independence.specs.declared.member_pairs.MemberPair.{MemberPair}
use Rattle.clr_independence.specs.Independences.{IsUnfitFor, of_cell, of_member}
use Rattle.clr_independence.specs.Pairs.{ArePairs}

module _ (o : Office) (s : MergeSet) where
  pub unfit_for : (v : Verdict) → ¬ (v ≡ verdict.OutOfMemory) → IsMergeSetFault o s v → IsUnfitFor o s v
  unfit_for v other (fault_of_member e) = of_member e
  unfit_for v other (without_memory none same) = absurd (other same)

  pub unfit_scene : (fault : SceneFault) → ¬ (fault ≡ scene.OutOfMemory) → member_fault o s ≡ None → IsSceneFault (change_sets o s) fault
      → IsUnfitFor o s (verdict_of fault)
  unfit_scene (scene.SharedCell cell i j) other none shared = of_cell cell i j none shared refl
  unfit_scene scene.OutOfMemory other none shared = absurd (other refl)

  module _ (rules : List Rule) (root : Content) (sets : List Changes) (is : setting rules root sets ≡ setting_by_position o s) where
    members_counted : length sets ≡ length s.members
    members_counted = sym (length-range_with_len 0 (length sets)) ∙ ap (λ (c : Setting ℕ). length c.members) is
        ∙ length-range_with_len 0 (length (change_sets o s)) ∙ length-map s.members (changes_in o)

    pub pairs_of_merge_set : (pairs : List MemberPair) → ArePairs (setting rules root sets) (length sets) pairs
        → ArePairs (setting_by_position o s) (length s.members) pairs
    pairs_of_merge_set pairs are = subst (λ c. ArePairs c (length s.members) pairs) is (subst (λ n. ArePairs (setting rules root sets) n pairs)
        members_counted are)
