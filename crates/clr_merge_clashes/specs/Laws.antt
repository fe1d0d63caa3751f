-- What the smallest clashes of a merge set, and the sets that are listed, decide.
use Rattle.std.specs.Prelude.{◌≡◌, ◌↔◌, ◌<◌, ℕ, true, false, List, None, Contains, length, map}
use Rattle.std.specs.List.Sorted.{IsStrictlySortedBy}
use Rattle.std.specs.Ordering.{nat_cmp}
use Rattle.clr_steps.specs.Offices.{Office}
use Rattle.clr_steps.specs.Quiet.{MergeSet}
use Rattle.clr_needs.specs.Members.{AreApart}
use Rattle.clr_clearance.specs.Plans.{members_at}
use Rattle.clr_clearance.specs.MergeSets.{change_sets, setting_by_position}
use Rattle.clr_clearance.specs.Verdicts.{member_fault}
use Rattle.clr_merge_sets.specs.MergeSetNames.{merge_set}
use Rattle.clr_merge_sets.specs.declared.plans.Plan.{Plan}
use Rattle.clr_plan.specs.Plans.{IsPlan}
use Rattle.clr_merge_sets.specs.Plans.{is_cleared, is_out_of_memory}
use Rattle.clr_clashes.specs.Clashes.{IsAllIn}
use Rattle.clr_clashes.specs.ListedClashes.{AreSmallestClashes, HoldNoneOf, ListedClash}
use Rattle.clr_merge_clashes.specs.MergeClashes.{FindsClashes}
use Rattle.clr_merge_clashes.specs.ClashSets.{MergeClash, positions_of, stored_clash}
use Rattle.clr_merge_clashes.specs.declared.clash_sets.MergeClashes.{MergeClashes as Found}

-- some of the members, by position
abbrev pub merge_set_of_part : MergeSet → List ℕ → MergeSet
merge_set_of_part s positions = merge_set s.root (members_at s positions)

-- positions of members, ascending
pub record ArePositions (s : MergeSet) (positions : List ℕ) : Type 0 where
  pub ascending : IsStrictlySortedBy nat_cmp positions
  pub below : (k : ℕ) → Contains positions k → k < length s.members

-- of members of a root, none in conflict and no cell changed by two: the plan of some of them is cleared exactly where they hold none of the listed
-- sets, memory aside
abbrev pub ClashesDecidePlans : Type 0
ClashesDecidePlans = (o : Office) (s : MergeSet) (listed : List ListedClash) (positions : List ℕ) (p : Plan)
    → member_fault o s ≡ None
    → AreApart (change_sets o s)
    → AreSmallestClashes (setting_by_position o s) listed
    → IsStrictlySortedBy nat_cmp positions
    → ((k : ℕ) → Contains positions k → k < length s.members)
    → IsPlan o (merge_set_of_part s positions) p
    → is_out_of_memory p ≡ false
    → (is_cleared p ≡ true) ↔ HoldNoneOf listed positions

-- the sets that are found --------------------------------------------------------------------------

abbrev pub sets_of : Found → List MergeClash
sets_of found = map stored_clash found.clashes.items

-- some members hold none of the sets
abbrev pub HoldNoSet : Found → List ℕ → Type 0
HoldNoSet found positions = (k : MergeClash) → Contains (sets_of found) k → ¬ (IsAllIn k.members positions)

-- what the sets tell of the plan of some members: it isn't cleared where they hold a set; and it is where they hold none and all were looked at
pub record IsDecided (found : Found) (positions : List ℕ) (p : Plan) : Type 0 where
  pub blocked : (k : MergeClash) → Contains (sets_of found) k → IsAllIn k.members positions → is_cleared p ≡ false
  pub cleared : IsAllIn positions found.looked.items → HoldNoSet found positions → is_cleared p ≡ true

-- the members of a set can't be merged together; without one or more of them they can, memory aside
pub record IsSmallestSet (o : Office) (s : MergeSet) (k : MergeClash) : Type 0 where
  pub positions : ArePositions s k.members
  pub blocked : (p : Plan) → IsPlan o (merge_set_of_part s k.members) p → is_cleared p ≡ false
  pub lesser_cleared : (positions : List ℕ) (p : Plan) → ArePositions s positions → IsAllIn positions k.members → ¬ (IsAllIn k.members positions)
      → IsPlan o (merge_set_of_part s positions) p → is_out_of_memory p ≡ false → is_cleared p ≡ true

-- what sets of some members promise: they tell which plans are cleared, memory aside; each is a smallest one, and no one holds another
pub record AreSmallestSets (o : Office) (s : MergeSet) (found : Found) : Type 0 where
  pub decided : (positions : List ℕ) (p : Plan) → ArePositions s positions → IsPlan o (merge_set_of_part s positions) p → is_out_of_memory p ≡ false
      → IsDecided found positions p
  pub smallest : (k : MergeClash) → Contains (sets_of found) k → IsSmallestSet o s k
  pub apart : (j k : MergeClash) → Contains (sets_of found) j → Contains (sets_of found) k → IsAllIn j.members k.members → j.members ≡ k.members

-- the sets that are found promise this
abbrev pub SetsDecidePlans : Type 0
SetsDecidePlans = (o : Office) (s : MergeSet) (found : Found) → FindsClashes o s found → AreSmallestSets o s found

-- where no cell is changed by two, all members are looked at
abbrev pub AllAreLookedAt : Type 0
AllAreLookedAt = (o : Office) (s : MergeSet) (found : Found) → FindsClashes o s found → AreApart (change_sets o s) → found.looked.items ≡ positions_of s.members
