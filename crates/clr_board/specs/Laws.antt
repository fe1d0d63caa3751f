-- What the state of a member promises of plans.
use Rattle.std.specs.Prelude.{◌≡◌, ◌⊎◌, ◌<◌, ℕ, true, false, List, [], ◌∷◌, Contains, length}
use Rattle.clr_steps.specs.Offices.{Office}
use Rattle.clr_steps.specs.Quiet.{MergeSet}
use Rattle.clr_merge_sets.specs.declared.plans.Plan.{Plan}
use Rattle.clr_merge_sets.specs.Plans.{is_cleared, is_out_of_memory}
use Rattle.clr_plan.specs.Plans.{IsPlan}
use Rattle.clr_clashes.specs.Clashes.{IsAllIn}
use Rattle.clr_merge_clashes.specs.Laws.{ArePositions, AreSmallestSets, merge_set_of_part}
use Rattle.clr_merge_clashes.specs.declared.clash_sets.MergeClashes.{MergeClashes}
use Rattle.clr_clash_helpers.specs.Helpers.{AreHelped}
use Rattle.clr_clash_helpers.specs.declared.helped.HelpedClash.{HelpedClash}
use Rattle.clr_board.specs.declared.states.DesignState.{DesignState}
use Rattle.clr_board.specs.declared.states.DesignState.TheVariants.{Free, Waiting, Unaided, Conflicted, Clashing}
use Rattle.clr_board.specs.States.{state_of}

-- each of some members is one of others, or the one at a position
abbrev pub AreWith : ℕ → List ℕ → List ℕ → Type 0
AreWith at fewer more = (x : ℕ) → Contains more x → (x ≡ at) ⊎ Contains fewer x

-- whatever members can be merged in every order, they can be so with this one, memory aside, if all of these were looked at
abbrev pub GoesWithAll : Office → MergeSet → MergeClashes → ℕ → Type 0
GoesWithAll o s found at =
    (fewer more : List ℕ) (p q : Plan) → ArePositions s fewer → ArePositions s more → IsAllIn more found.looked.items → AreWith at fewer more
    → IsPlan o (merge_set_of_part s fewer) p → IsPlan o (merge_set_of_part s more) q → is_cleared p ≡ true → is_out_of_memory q ≡ false
    → is_cleared q ≡ true

-- a member can't be merged in every order even alone, memory aside
abbrev pub IsRefusedAlone : Office → MergeSet → ℕ → Type 0
IsRefusedAlone o s at = (p : Plan) → IsPlan o (merge_set_of_part s (at ∷ [])) p → is_out_of_memory p ≡ false → is_cleared p ≡ false

-- a member can be merged alone, memory aside
abbrev pub GoesAlone : Office → MergeSet → ℕ → Type 0
GoesAlone o s at = (p : Plan) → IsPlan o (merge_set_of_part s (at ∷ [])) p → is_out_of_memory p ≡ false → is_cleared p ≡ true

-- what each state says of the plans with a member
abbrev pub TellsOf : Office → MergeSet → MergeClashes → ℕ → DesignState → Type 0
TellsOf o s found at Free = GoesWithAll o s found at
TellsOf o s found at Waiting = IsRefusedAlone o s at
TellsOf o s found at Unaided = IsRefusedAlone o s at
TellsOf o s found at Conflicted = IsRefusedAlone o s at
TellsOf o s found at Clashing = GoesAlone o s at

-- the state of each member says that
abbrev pub StatesTellPlans : Type 0
StatesTellPlans = (o : Office) (s : MergeSet) (found : MergeClashes) (helped : List HelpedClash) (at : ℕ)
    → AreSmallestSets o s found → AreHelped o s found.clashes.items helped → at < length s.members → TellsOf o s found at (state_of helped at)
