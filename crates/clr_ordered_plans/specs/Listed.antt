-- The plan of members that are covered, or broken, in the order in which they are named.
use Rattle.std.specs.Prelude.{◌≡◌, List, map}
use Rattle.std.specs.List.{range_with_len}
use Rattle.clr_workspaces.specs.Marks.{Name}
use Rattle.clr_steps.specs.Quiet.{MergeSet}
use Rattle.clr_clearance.specs.declared.verdicts.Verdict.TheVariants as verdict
use Rattle.clr_cert.specs.declared.certificates.Precedence.{Precedence}
use Rattle.clr_member_changes.specs.Names.{member_name}
use Rattle.clr_merge_sets.specs.Certificates.{merge_set_of}
use Rattle.clr_merge_sets.specs.declared.plans.Plan.{Plan}
use Rattle.clr_merge_sets.specs.declared.plans.Plan.TheVariants as plan
use Rattle.clr_order_answers.specs.declared.pairs.Pair.{Pair}
use Rattle.clr_listed_covers.specs.declared.listed_covers.ListedCover.{ListedCover}
use Rattle.clr_listed_covers.specs.declared.listed_covers.ListedCover.TheVariants as listed

-- the names of a pair
abbrev pub precedence_of : List Name → Pair → Precedence
precedence_of members p = record { earlier = member_name members p.earlier; later = member_name members p.later }

-- the certificate of the members with these pairs and entries, or the beginning of their list that breaks the need
abbrev pub IsPlanOfListed : MergeSet → ListedCover → Plan → Type 0
IsPlanOfListed s (listed.Covered pairs entries) (plan.Cleared c) =
    (merge_set_of c ≡ s) × (c.before ≡ map (precedence_of s.members) pairs.items) × (c.entries ≡ entries)
IsPlanOfListed s (listed.Broken need count) (plan.Blocked order cause) = (order.items ≡ range_with_len 0 count) × (cause ≡ verdict.Uncovered need)
IsPlanOfListed s _ _ = ⊥
