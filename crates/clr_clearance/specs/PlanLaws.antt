-- What a plan promises, by definitions alone.
use Rattle.std.specs.Prelude.{◌≡◌, ℕ, Bool, true, false, List, None}
use Rattle.clr_workspaces.specs.Marks.{Name}
use Rattle.clr_needs.specs.declared.needs.Need.{Need}
use Rattle.clr_needs.specs.Covers.{Entry}
use Rattle.clr_needs.specs.Needs.{IsTouched}
use Rattle.clr_needs.specs.Picks.{Blocks, Picks}
use Rattle.clr_needs.specs.Settings.{AreAmong}
use Rattle.clr_steps.specs.declared.commands.Command.{Command}
use Rattle.clr_steps.specs.Offices.{Office}
use Rattle.clr_steps.specs.Quiet.{MergeSet}
use Rattle.clr_steps.specs.Steps.{run}
use Rattle.clr_clearance.specs.declared.verdicts.Verdict.{Verdict}
use Rattle.clr_clearance.specs.Headline.{NamesTheSame}
use Rattle.clr_clearance.specs.Plans.{IsBlocked, IsCleared, is_order_refused, members_at, standing}
use Rattle.clr_clearance.specs.Runs.{AreQuiet}
use Rattle.clr_clearance.specs.Safety.{Safe}
use Rattle.clr_clearance.specs.MergeSets.{AreMergeable, Covers, setting_by_position, setting_of}
use Rattle.clr_clearance.specs.Verdicts.{member_fault, repeated_member}

-- a cleared plan covers the merge set
abbrev pub ClearedPlanLaw : Type 0
ClearedPlanLaw = (o : Office) (merge_set : MergeSet) (entries : List Entry) → IsCleared o merge_set entries → Covers o merge_set entries

-- a merge set with a cleared plan is safe
abbrev pub ClearedIsSafeLaw : Type 0
ClearedIsSafeLaw = (o : Office) (merge_set : MergeSet) (entries : List Entry) → IsCleared o merge_set entries → Safe o merge_set

-- the order of a blocked plan is refused
abbrev pub BlockedPlanLaw : Type 0
BlockedPlanLaw = (o : Office) (merge_set : MergeSet) (order : List ℕ) (cause : Verdict)
    → IsBlocked o merge_set order cause
    → is_order_refused o (members_at merge_set order) ≡ true

-- the members that break a touched need for which no witnesses are picked, as they stand in the list, are an order that is refused
abbrev pub UnpickedLaw : Type 0
UnpickedLaw = (o : Office) (merge_set : MergeSet) (n : Need) (order : List ℕ)
    → AreMergeable o merge_set
    → IsTouched (setting_by_position o merge_set) n
    → Picks (setting_by_position o merge_set) n None
    → Blocks (setting_by_position o merge_set) n order
    → is_order_refused o (members_at merge_set order) ≡ true

-- no order of merges of members of a safe merge set is refused, and so no safe merge set is blocked
abbrev pub SafeOrderLaw : Type 0
SafeOrderLaw = (o : Office) (merge_set : MergeSet) (names : List Name) → Safe o merge_set → AreAmong (setting_of o merge_set) names merge_set.members
    → is_order_refused o names ≡ false

abbrev pub SafePlanLaw : Type 0
SafePlanLaw = (o : Office) (merge_set : MergeSet) (order : List ℕ) (cause : Verdict) → Safe o merge_set
    → ¬ (IsBlocked o merge_set order cause)

-- after quiet commands some entries cover the members that stand
abbrev pub LastingCoverLaw : Type 0
LastingCoverLaw = (o : Office) (merge_set : MergeSet) (entries : List Entry) (commands : List Command) (lost : ℕ → Bool)
    → Covers o merge_set entries
    → AreQuiet o merge_set commands lost
    → let now = (run o commands lost).office in (others : List Entry) × Covers now (standing now merge_set) others

-- no test of the members fails, and no plan for the members is blocked
pub record StaysClear (now : Office) (merge_set : MergeSet) : Type 0 where
  pub free : member_fault now merge_set ≡ None
  pub mergeable : AreMergeable now merge_set
  pub unblocked : (order : List ℕ) (cause : Verdict) → ¬ (IsBlocked now merge_set order cause)

abbrev pub LastingLaw : Type 0
LastingLaw = (o : Office) (merge_set : MergeSet) (entries : List Entry) (commands : List Command) (lost : ℕ → Bool)
    → Covers o merge_set entries
    → AreQuiet o merge_set commands lost
    → let now = (run o commands lost).office in StaysClear now (standing now merge_set)

-- the law of covers holds in whichever order the members that still stand are named, each once
abbrev pub LastingCoverReorderedLaw : Type 0
LastingCoverReorderedLaw = (o : Office) (merge_set : MergeSet) (entries : List Entry) (commands : List Command) (lost : ℕ → Bool)
    → Covers o merge_set entries
    → AreQuiet o merge_set commands lost
    → let now = (run o commands lost).office in
    (other : MergeSet) → NamesTheSame (standing now merge_set) other → repeated_member other ≡ None → (others : List Entry) × Covers now other others

abbrev pub LastingReorderedLaw : Type 0
LastingReorderedLaw = (o : Office) (merge_set : MergeSet) (entries : List Entry) (commands : List Command) (lost : ℕ → Bool)
    → Covers o merge_set entries
    → AreQuiet o merge_set commands lost
    → let now = (run o commands lost).office in (other : MergeSet) → NamesTheSame (standing now merge_set) other → repeated_member other ≡ None
    → StaysClear now other
