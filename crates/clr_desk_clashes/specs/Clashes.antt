-- What is printed of the smallest sets of members that can't be merged together.
use Rattle.std.specs.Prelude.{◌≡◌, ◌↔◌, ◌==◌, ℕ, Bool, true, false, not, List, [], ◌∷◌, ◌++◌, Contains, Some, codes, filter, length, nat_lt}
use Rattle.std.specs.List.{flat_map, list_any, range_with_len}
use Rattle.clr_rows.specs.declared.tables.TableDef.{TableDef}
use Rattle.clr_workspaces.specs.Marks.{Name}
use Rattle.clr_steps.specs.Offices.{Office}
use Rattle.clr_steps.specs.Quiet.{MergeSet}
use Rattle.clr_clearance.specs.declared.verdicts.Verdict.{Verdict}
use Rattle.clr_clearance.specs.Plans.{members_at}
use Rattle.clr_clearance.specs.Verdicts.{names_fault}
use Rattle.clr_lines.specs.Reports.{count_line}
use Rattle.clr_lines.specs.Verdicts.{verdict_text}
use Rattle.clr_merge_sets.specs.declared.plans.Plan.{Plan}
use Rattle.clr_merge_sets.specs.declared.plans.Plan.TheVariants as plan
use Rattle.clr_plan.specs.Plans.{IsPlan}
use Rattle.clr_merge_sets.specs.Plans.{is_cleared, is_out_of_memory}
use Rattle.clr_merge_clashes.specs.Beside.{beside, is_beside}
use Rattle.clr_merge_clashes.specs.Laws.{ArePositions, AreSmallestSets, HoldNoSet, merge_set_of_part}
use Rattle.clr_merge_clashes.specs.MergeClashes.{FindsClashes}
use Rattle.clr_merge_clashes.specs.declared.clash_sets.MergeClash.{MergeClash}
use Rattle.clr_merge_clashes.specs.declared.clash_sets.MergeClashes.{MergeClashes}
use Rattle.clr_clash_helpers.specs.Helpers.{AreHelped}
use Rattle.clr_clash_helpers.specs.declared.helped.HelpedClash.{HelpedClash}
use Rattle.clr_desk_orders.specs.ChoicePrints.{names_line}
use Rattle.clr_desk_orders.specs.PlanPrints.{plan_print}
use Rattle.clr_desk_prints.specs.Members.{set_asked}
use Rattle.clr_desk_prints.specs.Printing.{PrintoutOrFault, printout_of}

-- the members of a set, and why they can't be merged together
abbrev pub clash_text : List TableDef → MergeSet → MergeClash → List ℕ
clash_text tables s k =
    names_line (codes "clash") (members_at s k.members.items) ++ codes "cause " ++ verdict_text tables (members_at s k.members.items) s.root k.cause

-- a set, and the members that help it
abbrev pub helped_text : List TableDef → MergeSet → HelpedClash → List ℕ
helped_text tables s h = clash_text tables s h.clash.now ++ names_line (codes "helps") (members_at s h.helpers.items)

abbrev pub is_listed_position : ℕ → List ℕ → Bool
is_listed_position at positions = list_any (λ x. x == at) positions

-- a position that is in none of some sets
abbrev pub is_in_no_set : List MergeClash → ℕ → Bool
is_in_no_set clashes at = not (list_any (λ (k : MergeClash). is_listed_position at k.members.items) clashes)

-- the members that are in none of these sets; with one that wasn't looked at with the others they may be in another
abbrev pub in_no_set : MergeSet → List MergeClash → List Name
in_no_set s clashes = members_at s (filter (is_in_no_set clashes) (range_with_len 0 (length s.members)))

-- a line of names, if there are any
abbrev pub line_of_some : List ℕ → List Name → List ℕ
line_of_some word [] = []
line_of_some word (name ∷ names) = names_line word (name ∷ names)

-- how many sets there are, each set with the members that help it, the members that weren't looked at with the others, and those that are in none of these sets
abbrev pub clashes_text : List TableDef → MergeSet → MergeClashes → List HelpedClash → List ℕ
clashes_text tables s found helped =
    count_line (codes "clashes") (length found.clashes.items) ++ flat_map (helped_text tables s) helped
    ++ line_of_some (codes "beside") (beside s found.looked.items) ++ names_line (codes "free") (in_no_set s found.clashes.items)

-- none of some members is among those that weren't looked at with the others
abbrev pub NoneIsBeside : MergeClashes → List ℕ → Type 0
NoneIsBeside found positions = (at : ℕ) → Contains positions at → is_beside found.looked.items at ≡ false

-- the plan of some members is cleared exactly where they hold none of the sets, memory aside
abbrev pub AreTold : Office → MergeSet → MergeClashes → List ℕ → Type 0
AreTold o s found positions =
    (p : Plan) → IsPlan o (merge_set_of_part s positions) p → is_out_of_memory p ≡ false → (is_cleared p ≡ true) ↔ HoldNoSet found positions

-- what the lines tell of plans: of members none of which is named `beside`, and of any where there is no such line
pub record LinesDecidePlans (o : Office) (s : MergeSet) (found : MergeClashes) : Type 0 where
  pub but_beside : (positions : List ℕ) → ArePositions s positions → NoneIsBeside found positions → AreTold o s found positions
  pub none_beside : beside s found.looked.items ≡ [] → (positions : List ℕ) → ArePositions s positions → AreTold o s found positions

-- one such set counts as a refusal
abbrev pub found_print : Office → MergeSet → MergeClashes → List HelpedClash → PrintoutOrFault
found_print o s found helped = printout_of (clashes_text o.schema s found helped) [] (nat_lt 0 (length found.clashes.items)) false

-- the sets, each with exactly the members that help it
abbrev pub IsFoundPrint : Office → MergeSet → MergeClashes → PrintoutOrFault → Type 0
IsFoundPrint o s found print = (helped : List HelpedClash) × AreHelped o s found.clashes.items helped × (print ≡ found_print o s found helped)

-- the smallest sets, with what they promise and the members that help each; or the test of names that fails, as the line of a plan that is unfit
pub data IsMergeSetPrint (s : MergeSet) (o : Office) (print : PrintoutOrFault) : Type 0 where
  of_found : (found : MergeClashes) → FindsClashes o s found → AreSmallestSets o s found → LinesDecidePlans o s found → IsFoundPrint o s found print
      → IsMergeSetPrint s o print
  of_names : (v : Verdict) → names_fault o s ≡ Some v → print ≡ plan_print o s (plan.Unfit v) → IsMergeSetPrint s o print

-- of the members that names ask for
abbrev pub IsClashesPrint : Name → List Name → Office → PrintoutOrFault → Type 0
IsClashesPrint root names o print = IsMergeSetPrint (set_asked o root names) o print
