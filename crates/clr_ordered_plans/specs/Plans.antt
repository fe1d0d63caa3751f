-- Plans in the order of members that are made where nothing covers some need in every order, and plans without pairs.
use Rattle.std.specs.Prelude.{◌≡◌, Bool, true, false, [], None}
use Rattle.clr_needs.specs.Members.{AreApart}
use Rattle.clr_steps.specs.Offices.{Office}
use Rattle.clr_steps.specs.Quiet.{MergeSet}
use Rattle.clr_clearance.specs.declared.verdicts.Verdict.{Verdict}
use Rattle.clr_clearance.specs.declared.verdicts.Verdict.TheVariants as verdict
use Rattle.clr_clearance.specs.MergeSets.{change_sets, setting_by_position}
use Rattle.clr_clearance.specs.Verdicts.{member_fault, names_fault}
use Rattle.clr_cert.specs.declared.certificates.Certificate.{Certificate}
use Rattle.clr_merge_sets.specs.declared.plans.Plan.{Plan}
use Rattle.clr_merge_sets.specs.declared.plans.Plan.TheVariants as plan
use Rattle.clr_plan.specs.Plans.{IsPlan}
use Rattle.clr_listed_covers.specs.declared.listed_covers.ListedCover.{ListedCover}
use Rattle.clr_listed_covers.specs.ListedCovers.{IsListedCover}
use Rattle.clr_ordered_plans.specs.Listed.{IsPlanOfListed}

abbrev pub is_uncovered : Verdict → Bool
is_uncovered (verdict.Uncovered n) = true
is_uncovered _ = false

-- the plan is blocked by a need
abbrev pub is_of_need : Plan → Bool
is_of_need (plan.Blocked order cause) = is_uncovered cause
is_of_need _ = false

-- no test of members fails, and the plan is that of what covers or breaks them in their order
pub record IsOfListed (o : Office) (s : MergeSet) (p : Plan) : Type 0 where
  pub free : member_fault o s ≡ None
  pub apart : AreApart (change_sets o s)
  pub cover : ListedCover
  pub told : IsListedCover (setting_by_position o s) cover
  pub is_plan : IsPlanOfListed s cover p

-- such a plan, or want of memory where no test of names fails
abbrev pub IsListedPlan : Office → MergeSet → Plan → Type 0
IsListedPlan o s plan.OutOfMemory = names_fault o s ≡ None
IsListedPlan o s p = IsOfListed o s p

-- a certificate without pairs is one that covers the members in every order: that of their plan in every order
abbrev pub IsPlanWithoutPairs : Office → MergeSet → Plan → Type 0
IsPlanWithoutPairs o s p = (c : Certificate) → p ≡ plan.Cleared c → c.before ≡ [] → IsPlan o s p
