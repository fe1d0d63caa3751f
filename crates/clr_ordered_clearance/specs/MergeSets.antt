-- Merge sets in which some members go before others, and when entries cover one.
use Rattle.std.specs.Prelude.{◌≡◌, ℕ, Bool, true, ◌&&◌, List}
use Rattle.std.specs.List.{list_any}
use Rattle.clr_rules.specs.Needs.{BreaksNoMore, Holds}
use Rattle.clr_workspaces.specs.Marks.{Name}
use Rattle.clr_needs.specs.Covers.{Entry}
use Rattle.clr_needs.specs.Settings.{AreAmong}
use Rattle.clr_steps.specs.Names.{same_name}
use Rattle.clr_steps.specs.Offices.{Office}
use Rattle.clr_steps.specs.Quiet.{MergeSet, is_member}
use Rattle.clr_clearance.specs.MergeSets.{AreMergeable, rows_with, setting_by_position, setting_of}
use Rattle.clr_ordered_needs.specs.Covers.{AreCovered}
use Rattle.clr_ordered_needs.specs.Positions.{order_at}
use Rattle.clr_ordered_needs.specs.Turns.{AreInTurn, ListsAll, is_earlier}

-- a merge set, and pairs of names of which the first goes before the second
pub record OrderedMergeSet : Type 0 where
  pub merge_set : MergeSet
  pub before : List (Name × Name)

-- a pair says so
abbrev pub goes_before : OrderedMergeSet → Name → Name → Bool
goes_before ordered m n = list_any (λ p. same_name p.0 m && same_name p.1 n) ordered.before

-- the member at the one position goes before the member at the other
abbrev pub position_goes_before : OrderedMergeSet → ℕ → ℕ → Bool
position_goes_before ordered = order_at (goes_before ordered) ordered.merge_set.members

-- the members are mergeable, and each need that they touch has an entry that covers it under the order, or its subjects never stand together
pub record CoversInTurn (o : Office) (ordered : OrderedMergeSet) (entries : List Entry) : Type 0 where
  pub mergeable : AreMergeable o ordered.merge_set
  pub covered : AreCovered (position_goes_before ordered) (setting_by_position o ordered.merge_set) entries

-- some members have come in turn: with each of them, every member that goes before it
abbrev pub HaveComeInTurn : Office → OrderedMergeSet → List Name → Type 0
HaveComeInTurn o ordered names = AreInTurn (goes_before ordered) (setting_of o ordered.merge_set) names

-- with the changes over it of members that have come in turn, the root breaks no need but those that it breaks with fewer of them
abbrev pub MembersBreakNoMoreInTurn : Office → OrderedMergeSet → Type 0
MembersBreakNoMoreInTurn o ordered = (fewer more : List Name) → AreAmong (setting_of o ordered.merge_set) fewer more
    → AreAmong (setting_of o ordered.merge_set) more ordered.merge_set.members
    → HaveComeInTurn o ordered more
    → BreaksNoMore o.book (rows_with o ordered.merge_set fewer) (rows_with o ordered.merge_set more)

-- every rule holds in the root with the changes over it of members that have come in turn
abbrev pub KeepsRulesInTurn : Office → OrderedMergeSet → Type 0
KeepsRulesInTurn o ordered = (names : List Name) → AreAmong (setting_of o ordered.merge_set) names ordered.merge_set.members
    → HaveComeInTurn o ordered names
    → Holds o.book (rows_with o ordered.merge_set names)

-- who goes before another is listed before it, and both are members
abbrev pub AreListedInTurn : OrderedMergeSet → Type 0
AreListedInTurn ordered = (m n : Name) → goes_before ordered m n ≡ true → is_earlier same_name ordered.merge_set.members m n ≡ true

-- a list of exactly the members, each once, in which who goes before another stands before it
pub record ListsInTurn (o : Office) (ordered : OrderedMergeSet) (names : List Name) : Type 0 where
  pub lists : ListsAll (setting_of o ordered.merge_set) names
  pub in_turn : (m n : Name) → goes_before ordered m n ≡ true → is_member ordered.merge_set m ≡ true → is_member ordered.merge_set n ≡ true
      → is_earlier same_name names m n ≡ true
