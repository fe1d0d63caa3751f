-- What plans promise.
use Rattle.std.specs.Prelude.{◌≡◌, ◌↔◌, ℕ, Bool, true, false, List, None}
use Rattle.clr_cert.specs.declared.certificates.Certificate.{Certificate}
use Rattle.clr_needs.specs.Covers.{Entry}
use Rattle.clr_steps.specs.declared.commands.Command.{Command}
use Rattle.clr_steps.specs.Offices.{Office}
use Rattle.clr_steps.specs.Quiet.{MergeSet}
use Rattle.clr_steps.specs.Steps.{run}
use Rattle.clr_clearance.specs.declared.verdicts.Verdict.{Verdict}
use Rattle.clr_clearance.specs.declared.verdicts.Verdict.TheVariants as verdict
use Rattle.clr_clearance.specs.Headline.{Headline, NamesTheSame}
use Rattle.clr_clearance.specs.Plans.{IsUnfit, is_order_refused, members_at, standing}
use Rattle.clr_clearance.specs.Runs.{AreQuiet}
use Rattle.clr_clearance.specs.Safety.{Safe}
use Rattle.clr_clearance.specs.MergeSets.{Covers}
use Rattle.clr_clearance.specs.Verdicts.{IsVerdict, names_fault, repeated_member}
use Rattle.clr_merge_sets.specs.Certificates.{entries_in, merge_set_of}
use Rattle.clr_merge_sets.specs.Plans.{is_cleared, is_out_of_memory}
use Rattle.clr_merge_sets.specs.declared.plans.Plan.{Plan}
use Rattle.clr_merge_sets.specs.declared.plans.Plan.TheVariants as plan

-- the certificate covers the members as they are given, so that the verdict on it is clear; and they are safe, as the headline says
pub record IsProof (o : Office) (s : MergeSet) (c : Certificate) : Type 0 where
  pub names : merge_set_of c ≡ s
  pub covers : Covers o s (entries_in c.entries)
  pub clear : IsVerdict o s (entries_in c.entries) verdict.Clear
  pub safe : Safe o s
  pub headline : Headline o s

-- of the merges of the members in this order, with no workspace removed, one meets a conflict or breaks a rule
pub record IsRefusedOrder (o : Office) (s : MergeSet) (order : List ℕ) : Type 0 where
  pub refused : is_order_refused o (members_at s order) ≡ true
  pub unsafe : ¬ (Safe o s)

abbrev pub Promises : Office → MergeSet → Plan → Type 0
Promises o s (plan.Cleared c) = IsProof o s c
Promises o s (plan.Blocked order cause) = IsRefusedOrder o s order.items
Promises o s (plan.Unfit v) = Unit {0}
Promises o s plan.OutOfMemory = Unit {0}

-- where no test of names fails and memory was found, the plan is cleared exactly where the members are safe
abbrev pub IsExact : Office → MergeSet → Plan → Type 0
IsExact o s p = names_fault o s ≡ None → is_out_of_memory p ≡ false → (is_cleared p ≡ true) ↔ Safe o s

-- where a test of names fails, the plan is unfit with that test
abbrev pub IsUnfitWhere : Office → MergeSet → Plan → Type 0
IsUnfitWhere o s p = (v : Verdict) → IsUnfit o s v → p ≡ plan.Unfit v

-- the members of a covered merge set that stand after quiet commands are cleared, in whichever order they are named, memory aside
abbrev pub StaysCleared : Office → MergeSet → Plan → Type 0
StaysCleared o s p = (first : Office) (merge_set : MergeSet) (entries : List Entry) (commands : List Command) (lost : ℕ → Bool)
    → Covers first merge_set entries
    → AreQuiet first merge_set commands lost
    → o ≡ (run first commands lost).office
    → NamesTheSame (standing o merge_set) s
    → repeated_member s ≡ None
    → is_out_of_memory p ≡ false
    → is_cleared p ≡ true
