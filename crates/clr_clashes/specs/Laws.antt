-- What clashes promise, by definitions alone.
use Rattle.std.specs.Prelude.{◌↔◌, ◌<◌, ℕ, List, Contains, length}
use Rattle.std.specs.List.Sorted.{IsStrictlySortedBy}
use Rattle.std.specs.Ordering.{nat_cmp}
use Rattle.clr_rows.specs.Contents.{Changes, Content}
use Rattle.clr_rules.specs.declared.rules.Rule.{Rule}
use Rattle.clr_needs.specs.Members.{AreApart, setting}
use Rattle.clr_needs.specs.Parts.{setting_at}
use Rattle.clr_clashes.specs.BrokenNeeds.{AreBrokenNeeds, ArePlaces, IsFirstHeld, IsLeastBroken}
use Rattle.clr_clashes.specs.Clashes.{HoldNoClash, LeavesNoneUncovered}
use Rattle.clr_clashes.specs.ListedClashes.{AreSmallestClashes, HoldNoneOf, ListedClash}

-- where no cell is changed by two members, some of the members alone leave no touched need uncovered
-- exactly where they hold none of the smallest clashes of all
abbrev pub ClashesDecideSubsets : Type 0
ClashesDecideSubsets = (rules : List Rule) (root : Content) (sets : List Changes) (positions : List ℕ)
    → AreApart sets
    → IsStrictlySortedBy nat_cmp positions
    → ((k : ℕ) → Contains positions k → k < length sets)
    → LeavesNoneUncovered (setting_at rules root sets positions) ↔ HoldNoClash (setting rules root sets) positions

-- some of the members alone leave no touched need uncovered exactly where they hold none of a list of the smallest clashes of all
abbrev pub ListedClashesDecideSubsets : Type 0
ListedClashesDecideSubsets = (rules : List Rule) (root : Content) (sets : List Changes) (ks : List ListedClash) (positions : List ℕ)
    → AreApart sets
    → AreSmallestClashes (setting rules root sets) ks
    → IsStrictlySortedBy nat_cmp positions
    → ((k : ℕ) → Contains positions k → k < length sets)
    → LeavesNoneUncovered (setting_at rules root sets positions) ↔ HoldNoneOf ks positions

-- the least need that some of the members alone break is the first of all broken needs of which they hold the members that break it; and these break it
-- there, by their places among the some
abbrev pub PartsBreakListedNeeds : Type 0
PartsBreakListedNeeds = (rules : List Rule) (root : Content) (sets : List Changes) (ks : List ListedClash) (positions : List ℕ)
    (k : ListedClash) (places : List ℕ)
    → AreApart sets
    → AreBrokenNeeds (setting rules root sets) ks
    → IsStrictlySortedBy nat_cmp positions
    → ((x : ℕ) → Contains positions x → x < length sets)
    → IsFirstHeld ks positions k
    → ArePlaces positions k.members places
    → IsLeastBroken (setting_at rules root sets positions) (record { members = places; need = k.need })
