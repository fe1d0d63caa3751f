-- The smallest sets of the members of a merge set that can't be merged together: members that can't be merged even alone, members that change one
-- cell, and members that break a need which nothing covers.
use Rattle.std.specs.Prelude.{◌≡◌, ◌⊎◌, ◌==◌, ◌||◌, ℕ, Bool, not, List, ◌++◌, Option, None, Some, Result, Ok, Err, filter, map, slice_get}
use Rattle.std.specs.List.{filter_map, list_any}
use Rattle.clr_needs.specs.Members.{AreApart}
use Rattle.clr_steps.specs.Offices.{Office}
use Rattle.clr_steps.specs.Quiet.{MergeSet}
use Rattle.clr_clearance.specs.declared.verdicts.Verdict.{Verdict}
use Rattle.clr_clearance.specs.declared.verdicts.Verdict.TheVariants as verdict
use Rattle.clr_clearance.specs.Plans.{members_at}
use Rattle.clr_clearance.specs.MergeSets.{change_sets, setting_by_position}
use Rattle.clr_clearance.specs.Verdicts.{member_fault, names_fault}
use Rattle.clr_merge_sets.specs.MergeSetNames.{merge_set}
use Rattle.clr_clashes.specs.ListedClashes.{AreSmallestClashes, ListedClash}
use Rattle.clr_merge_clashes.specs.Lone.{AreCauses, free_positions, is_free, lone_clashes}
use Rattle.clr_merge_clashes.specs.SharedCells.{apart_positions, shared_clashes}
use Rattle.clr_merge_clashes.specs.ClashSets.{MergeClash, merge_clash, positions_of, stored_clash}
use Rattle.clr_merge_clashes.specs.declared.clash_sets.MergeClashes.{MergeClashes as Found}

-- of the members that can be merged alone, those that change no cell which an earlier one changes, by position
abbrev pub together : Office → MergeSet → List (Option Verdict) → List ℕ
together o s causes = apart_positions (change_sets o s) (free_positions causes)

abbrev pub together_merge_set : Office → MergeSet → List (Option Verdict) → MergeSet
together_merge_set o s causes = merge_set s.root (members_at s (together o s causes))

-- these, and the members that can't be merged even alone, are looked at; the sets tell of each subset of them whether it is cleared
abbrev pub is_looked_at : List (Option Verdict) → List ℕ → ℕ → Bool
is_looked_at causes positions at = not (is_free causes at) || list_any (λ x. x == at) positions

abbrev pub looked_at : Office → MergeSet → List (Option Verdict) → List ℕ
looked_at o s causes = filter (is_looked_at causes (together o s causes)) (positions_of causes)

-- a set of these that breaks a need, by positions among all
abbrev pub need_clash : List ℕ → ListedClash → MergeClash
need_clash looked k = merge_clash (filter_map (slice_get looked) k.members) (verdict.Uncovered k.need)

-- the sets of some members that break a need, by positions among all: no test of these members fails, and no cell is changed by two
pub record AreListed (o : Office) (s : MergeSet) (looked : List ℕ) (listed : List ListedClash) (sets : List MergeClash) : Type 0 where
  pub free : member_fault o s ≡ None
  pub apart : AreApart (change_sets o s)
  pub smallest : AreSmallestClashes (setting_by_position o s) listed
  pub numbered : sets ≡ map (need_clash looked) listed

abbrev pub AreNeedClashes : Office → MergeSet → List ℕ → List MergeClash → Type 0
AreNeedClashes o s looked sets = (listed : List ListedClash) × AreListed o s looked listed sets

-- all: each member that can't be merged even alone; of the others each two that change one cell, and the sets that break a need
pub record AreMergeClashes (o : Office) (s : MergeSet) (causes : List (Option Verdict)) (broken : List MergeClash) (found : Found) : Type 0 where
  pub named : names_fault o s ≡ None
  pub alone : AreCauses o s.root s.members causes
  pub looked : found.looked.items ≡ looked_at o s causes
  pub needs : AreNeedClashes o (together_merge_set o s causes) (together o s causes) broken
  pub clashes : map stored_clash found.clashes.items
      ≡ lone_clashes causes ++ shared_clashes (change_sets o s) (free_positions causes) ++ broken

abbrev pub FindsClashes : Office → MergeSet → Found → Type 0
FindsClashes o s found = (causes : List (Option Verdict)) × (broken : List MergeClash) × AreMergeClashes o s causes broken found

-- the first test of names that fails, or no memory was found
abbrev pub IsFaultOfNames : Office → MergeSet → Verdict → Type 0
IsFaultOfNames o s v = (names_fault o s ≡ Some v) ⊎ (v ≡ verdict.OutOfMemory)

-- the clashes that are found, or the fault for which none are
abbrev pub AreFound : Office → MergeSet → Result Found Verdict → Type 0
AreFound o s (Ok found) = FindsClashes o s found
AreFound o s (Err v) = IsFaultOfNames o s v
