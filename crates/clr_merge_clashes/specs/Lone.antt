-- Members that can't be merged even alone.
use Rattle.std.specs.Prelude.{◌≡◌, ◌∷◌, ℕ, Bool, true, List, [], Option, None, Some, filter, is_none, option_and_then, option_map, slice_get}
use Rattle.std.specs.List.{filter_map}
use Rattle.clr_workspaces.specs.Marks.{Name}
use Rattle.clr_steps.specs.Offices.{Office}
use Rattle.clr_steps.specs.Quiet.{MergeSet}
use Rattle.clr_clearance.specs.declared.verdicts.Verdict.{Verdict}
use Rattle.clr_clearance.specs.Plans.{IsBlocked}
use Rattle.clr_merge_sets.specs.MergeSetNames.{merge_set}
use Rattle.clr_merge_sets.specs.declared.plans.Plan.{Plan}
use Rattle.clr_plan.specs.Plans.{IsPlan}
use Rattle.clr_merge_sets.specs.Plans.{is_cleared}
use Rattle.clr_merge_clashes.specs.ClashSets.{MergeClash, positions_of, merge_clash}

-- one member alone
abbrev pub alone : Name → Name → MergeSet
alone root name = merge_set root (name ∷ [])

-- why the plan of a merge set is blocked, or that it is cleared
abbrev pub IsCause : Office → MergeSet → Option Verdict → Type 0
IsCause o s None = (p : Plan) × IsPlan o s p × (is_cleared p ≡ true)
IsCause o s (Some v) = (order : List ℕ) × IsBlocked o s order v

-- of each of some members why it can't be merged even alone, if it can't
abbrev pub AreCauses : Office → Name → List Name → List (Option Verdict) → Type 0
AreCauses o root [] [] = Unit {0}
AreCauses o root (name ∷ names) (cause ∷ causes) = IsCause o (alone root name) cause × AreCauses o root names causes
AreCauses o root _ _ = ⊥

abbrev pub cause_at : List (Option Verdict) → ℕ → Option Verdict
cause_at causes at = option_and_then (λ cause. cause) (slice_get causes at)

-- the member at a position alone, where it can't be merged
abbrev pub lone_clash : List (Option Verdict) → ℕ → Option MergeClash
lone_clash causes at = option_map (merge_clash (at ∷ [])) (cause_at causes at)

abbrev pub lone_clashes : List (Option Verdict) → List MergeClash
lone_clashes causes = filter_map (lone_clash causes) (positions_of causes)

abbrev pub is_free : List (Option Verdict) → ℕ → Bool
is_free causes at = is_none (lone_clash causes at)

-- the positions of the others
abbrev pub free_positions : List (Option Verdict) → List ℕ
free_positions causes = filter (is_free causes) (positions_of causes)
