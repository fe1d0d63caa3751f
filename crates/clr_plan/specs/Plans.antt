-- What is planned for a merge set.
use Rattle.std.specs.Prelude.{◌≡◌, ℕ, List, [], None}
use Rattle.clr_cert.specs.declared.certificates.Certificate.{Certificate}
use Rattle.clr_needs.specs.declared.needs.Need.{Need}
use Rattle.clr_needs.specs.Picks.{Blocks}
use Rattle.clr_needs.specs.Settings.{Setting}
use Rattle.clr_steps.specs.Offices.{Office}
use Rattle.clr_steps.specs.Quiet.{MergeSet}
use Rattle.clr_clearance.specs.declared.verdicts.Verdict.{Verdict}
use Rattle.clr_clearance.specs.declared.verdicts.Verdict.TheVariants as verdict
use Rattle.clr_clearance.specs.Plans.{ArePicked, IsBlocked, IsCleared, IsFirstUnpicked, IsUnfit}
use Rattle.clr_clearance.specs.Verdicts.{names_fault}
use Rattle.clr_merge_sets.specs.Certificates.{entries_in, merge_set_of}
use Rattle.clr_merge_sets.specs.declared.plans.Plan.{Plan}
use Rattle.clr_merge_sets.specs.declared.plans.Plan.TheVariants as plan

-- the certificate names the members as they are given, none of whom goes before another, and has an entry for each touched need
pub record IsClearance (o : Office) (s : MergeSet) (c : Certificate) : Type 0 where
  pub merge_set : merge_set_of c ≡ s
  pub without_order : c.before ≡ []
  pub cleared : IsCleared o s (entries_in c.entries)

-- the plan of a merge set; want of memory may come in its place where no test of names fails
abbrev pub IsPlan : Office → MergeSet → Plan → Type 0
IsPlan o s (plan.Unfit v) = IsUnfit o s v
IsPlan o s (plan.Blocked order cause) = IsBlocked o s order.items cause
IsPlan o s (plan.Cleared c) = IsClearance o s c
IsPlan o s plan.OutOfMemory = names_fault o s ≡ None

-- by parts -----------------------------------------------------------------------------------

-- the plan is blocked in this order for this cause, or is want of memory
abbrev pub IsBlockedIn : List ℕ → Verdict → Plan → Type 0
IsBlockedIn order cause (plan.Blocked list v) = (list.items ≡ order) × (v ≡ cause)
IsBlockedIn order cause (plan.Unfit v) = ⊥
IsBlockedIn order cause (plan.Cleared c) = ⊥
IsBlockedIn order cause plan.OutOfMemory = Unit {0}

-- what the touched needs of a setting decide: a certificate with the names as given, or the order that breaks the least need without witnesses
abbrev pub IsScenePlan : Setting ℕ → MergeSet → Plan → Type 0
IsScenePlan c s (plan.Cleared cert) = (merge_set_of cert ≡ s) × (cert.before ≡ []) × ArePicked c (entries_in cert.entries)
IsScenePlan c s (plan.Blocked order cause) = (n : Need) × IsFirstUnpicked c n × Blocks c n order.items × (cause ≡ verdict.Uncovered n)
IsScenePlan c s (plan.Unfit v) = ⊥
IsScenePlan c s plan.OutOfMemory = ⊥
