-- What is to be said of an ordered merge set and of entries: clear, or the first test that fails. The tests are those of a merge set, and behind the second
-- of them one of the pairs.
use Rattle.std.specs.Prelude.{◌≡◌, ℕ, not, List, Option, Some, None, ◌⊎◌, position}
use Rattle.std.specs.Option.{option_map, option_or}
use Rattle.std.specs.declared.cmp.Ordering.TheVariants.{Less}
use Rattle.clr_rows.specs.declared.cells.CellId.{CellId}
use Rattle.clr_needs.specs.declared.faults.SceneFault.TheVariants as scene
use Rattle.clr_needs.specs.declared.needs.Need.{Need}
use Rattle.clr_needs.specs.Covers.{Entry}
use Rattle.clr_needs.specs.Members.{AreApart, IsSceneFault}
use Rattle.clr_needs.specs.Needs.{IsPossible, IsTouchedBy}
use Rattle.clr_needs.specs.Orders.{need_cmp}
use Rattle.clr_needs.specs.Settings.{Setting, Lived}
use Rattle.clr_steps.specs.Names.{same_name}
use Rattle.clr_steps.specs.Offices.{Office}
use Rattle.clr_clearance.specs.declared.verdicts.Verdict.{Verdict}
use Rattle.clr_clearance.specs.declared.verdicts.Verdict.TheVariants as verdict
use Rattle.clr_clearance.specs.MergeSets.{change_sets, setting_by_position}
use Rattle.clr_clearance.specs.Verdicts.{first_conflict, missing_member, repeated_member, root_fault, stray_member}
use Rattle.clr_ordered_needs.specs.Covers.{AreCovered, HasEntry, SubjectsNeverMeet}
use Rattle.clr_ordered_needs.specs.Turns.{Order, is_earlier}
use Rattle.clr_ordered_clearance.specs.MergeSets.{OrderedMergeSet, position_goes_before}

-- the tests of names -----------------------------------------------------------------------------------

-- the third test of names: of each pair the first stands before the second in the list of members
abbrev pub misplaced_pair : OrderedMergeSet → Option Verdict
misplaced_pair ordered = option_map verdict.NotBefore (position (λ p. not (is_earlier same_name ordered.merge_set.members p.0 p.1)) ordered.before)

-- the tests of names of a merge set, with that of pairs behind the second
unfoldable pub names_fault_in_turn : Office → OrderedMergeSet → Option Verdict
names_fault_in_turn o ordered = option_or (root_fault o ordered.merge_set) (option_or (repeated_member ordered.merge_set)
    (option_or (misplaced_pair ordered) (option_or (missing_member o ordered.merge_set) (stray_member o ordered.merge_set))))

-- the tests that look at one member, or at one pair, at a time
abbrev pub member_fault_in_turn : Office → OrderedMergeSet → Option Verdict
member_fault_in_turn o ordered = option_or (names_fault_in_turn o ordered) (first_conflict o 0 ordered.merge_set.members)

-- the test of needs --------------------------------------------------------------------------------------

-- the subjects never stand together, or an entry covers the need
abbrev pub IsSettled : Order ℕ → Setting ℕ → List Entry → Need → Lived ℕ → Option (Lived ℕ) → Type 0
IsSettled before c entries n a b = SubjectsNeverMeet before a b ⊎ HasEntry before c n a b entries

-- a touched need that no entry covers, and whose subjects can stand together, where each lesser one is settled
pub record IsFirstUncoveredInTurn (before : Order ℕ) (c : Setting ℕ) (entries : List Entry) (n : Need) (a : Lived ℕ) (b : Option (Lived ℕ)) : Type 0 where
  pub possible : IsPossible c n a b
  pub touched : IsTouchedBy c n a b
  pub uncovered : ¬ (IsSettled before c entries n a b)
  pub first : (m : Need) (d : Lived ℕ) (e : Option (Lived ℕ)) → need_cmp m n ≡ Less → IsPossible c m d e → IsTouchedBy c m d e
      → IsSettled before c entries m d e

-- the first test that fails, or clear: first the tests of each member and of each pair, then that no cell is changed by two, then that each touched need is
-- covered under the order, or its subjects never stand together
pub data IsVerdictInTurn (o : Office) (ordered : OrderedMergeSet) (entries : List Entry) (v : Verdict) : Type 0 where
  of_member : member_fault_in_turn o ordered ≡ Some v → IsVerdictInTurn o ordered entries v
  of_cell : (cell : CellId) (i j : ℕ) → member_fault_in_turn o ordered ≡ None
      → IsSceneFault (change_sets o ordered.merge_set) (scene.SharedCell cell i j) → v ≡ verdict.SharedCell cell i j → IsVerdictInTurn o ordered entries v
  of_need : (n : Need) (a : Lived ℕ) (b : Option (Lived ℕ)) → member_fault_in_turn o ordered ≡ None → AreApart (change_sets o ordered.merge_set)
      → IsFirstUncoveredInTurn (position_goes_before ordered) (setting_by_position o ordered.merge_set) entries n a b → v ≡ verdict.Uncovered n
      → IsVerdictInTurn o ordered entries v
  of_none : member_fault_in_turn o ordered ≡ None → AreApart (change_sets o ordered.merge_set)
      → AreCovered (position_goes_before ordered) (setting_by_position o ordered.merge_set) entries → v ≡ verdict.Clear → IsVerdictInTurn o ordered entries v
