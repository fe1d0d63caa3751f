-- The scene of a merge set: it has as many members, and that of one member changes the root's rows.
use Rattle.std.proofs.Common.{◌≡◌, ◌∙◌, ℕ, zero, suc, List, [], ◌∷◌, None, ap, length, refl, subst, sym}
use Rattle.std.proofs.lemmas.Bool.{false≢true}
use Rattle.std.proofs.lemmas.List.{length-map}
use Rattle.std.proofs.lemmas.List.FromFn.{length-range_with_len}
use Rattle.clr_rows.specs.Contents.{Changes, Content}
use Rattle.clr_rules.specs.declared.rules.Rule.{Rule}
use Rattle.clr_needs.specs.Members.{AreApart, setting}
use Rattle.clr_needs.specs.Settings.{DoChange, Setting}
use Rattle.clr_steps.specs.Offices.{Office}
use Rattle.clr_steps.specs.Quiet.{MergeSet}
use Rattle.clr_steps.specs.Readings.{changes_in}
use Rattle.clr_clearance.specs.MergeSets.{change_sets, setting_by_position}
use Rattle.clr_clearance.specs.Verdicts.{member_fault}
use Rattle.clr_clearance.proofs.ClearLemmas.{mergeable_of}
use Rattle.clr_clearance.proofs.RefusedLemmas.{positions_change}
use Rattle.clr_clearance.proofs.StaticLemmas.{numbered_is}

-- one member shares no cell with another
apart_alone : (sets : List Changes) → length sets ≡ 1 → AreApart sets
apart_alone [] one cell j k changes changes_too = absurd (cc)
apart_alone (s ∷ []) one cell zero zero changes changes_too = refl
apart_alone (s ∷ []) one cell zero (suc k) changes changes_too = absurd (false≢true changes_too)
apart_alone (s ∷ []) one cell (suc j) k changes changes_too = absurd (false≢true changes)
apart_alone (s ∷ t ∷ ss) one cell j k changes changes_too = absurd (cc)

module _ (o : Office) (s : MergeSet) (rules : List Rule) (root : Content) (sets : List Changes) (is : setting rules root sets ≡ setting_by_position o s) where
  pub members_counted : length sets ≡ length s.members
  members_counted = sym (length-range_with_len 0 (length sets)) ∙ ap (λ (c : Setting ℕ). length c.members) is
      ∙ length-range_with_len 0 (length (change_sets o s)) ∙ length-map s.members (changes_in o)

  pub member_changes : member_fault o s ≡ None → length s.members ≡ 1 → DoChange (setting rules root sets)
  member_changes free one =
      let apart = apart_alone (change_sets o s) (length-map s.members (changes_in o) ∙ one) in
      subst (λ (c : Setting ℕ). DoChange c) (sym (is ∙ numbered_is o s)) (positions_change o s (mergeable_of o s free apart))
