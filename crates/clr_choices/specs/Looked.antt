-- Names that are looked at together, and what is known of some of them by that.
use Rattle.std.specs.Prelude.{◌≡◌, ◌∷◌, ◌++◌, ◌<◌, ℕ, Bool, false, List, [], Option, None, Contains, cond, length, map, slice_get}
use Rattle.std.specs.List.{filter_map}
use Rattle.std.specs.List.Sorted.{IsStrictlySortedBy}
use Rattle.std.specs.Option.{option_map_or}
use Rattle.std.specs.Ordering.{nat_cmp}
use Rattle.clr_workspaces.specs.Marks.{Name}
use Rattle.clr_needs.specs.Members.{AreApart}
use Rattle.clr_steps.specs.Names.{same_name}
use Rattle.clr_steps.specs.Offices.{Office}
use Rattle.clr_clearance.specs.MergeSets.{change_sets, setting_by_position}
use Rattle.clr_clearance.specs.Verdicts.{member_fault}
use Rattle.clr_clashes.specs.ListedClashes.{ListedClash, listed_clash_of}
use Rattle.clr_merge_sets.specs.MergeSetNames.{merge_set}
use Rattle.clr_clashes.specs.BrokenNeeds.{AreBrokenNeeds, ArePlaces, IsFirstHeld}
use Rattle.clr_clearance.specs.declared.verdicts.Verdict.TheVariants as verdict
use Rattle.clr_merge_sets.specs.declared.plans.Plan.{Plan}
use Rattle.clr_merge_sets.specs.declared.plans.Plan.TheVariants as plan
use Rattle.clr_choices.specs.declared.looked.Looked.{Looked}

-- no test of the members fails, no cell is changed by two, and these are all needs that they break
pub record AreLookedAt (o : Office) (root : Name) (names : List Name) (broken : List ListedClash) : Type 0 where
  pub free : member_fault o (merge_set root names) ≡ None
  pub apart : AreApart (change_sets o (merge_set root names))
  pub needs : AreBrokenNeeds (setting_by_position o (merge_set root names)) broken

abbrev pub IsLookedAt : Office → Name → Looked → Type 0
IsLookedAt o root looked = AreLookedAt o root looked.names.items (map listed_clash_of looked.broken.items)

-- the positions of members among names, ascending
pub record ArePositionsOf (names members : List Name) (positions : List ℕ) : Type 0 where
  pub ascending : IsStrictlySortedBy nat_cmp positions
  pub below : (at : ℕ) → Contains positions at → at < length names
  pub read : filter_map (slice_get names) positions ≡ members

-- the name is the member at a place
abbrev pub is_member_at : List Name → ℕ → Name → Bool
is_member_at members at name = option_map_or (λ member. same_name member name) (slice_get members at) false

-- a position behind some, where there is one
abbrev pub with_position : Bool → List ℕ → ℕ → List ℕ
with_position there positions at = cond there (positions ++ at ∷ []) positions

-- the plan is blocked by the first of some needs of which positions hold all members that break it, in the order of their places
abbrev pub IsBlockedAt : List ListedClash → List ℕ → Plan → Type 0
IsBlockedAt ks positions (plan.Blocked order cause) =
    (k : ListedClash) × IsFirstHeld ks positions k × ArePlaces positions k.members order.items × (cause ≡ verdict.Uncovered k.need)
IsBlockedAt ks positions (plan.Unfit v) = ⊥
IsBlockedAt ks positions (plan.Cleared c) = ⊥
IsBlockedAt ks positions plan.OutOfMemory = ⊥
