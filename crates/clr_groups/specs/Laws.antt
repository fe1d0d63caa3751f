-- What groups of members promise, by definitions alone.
use Rattle.std.specs.Prelude.{◌≡◌, ◌↔◌, ℕ, List, Option, Some, map, slice_get}
use Rattle.clr_rows.specs.Contents.{Changes, Content}
use Rattle.clr_rules.specs.declared.rules.Rule.{Rule}
use Rattle.clr_needs.specs.declared.needs.Need.{Need}
use Rattle.clr_needs.specs.declared.needs.VersionId.{VersionId}
use Rattle.clr_needs.specs.Members.{AreApart, setting}
use Rattle.clr_needs.specs.Needs.{IsTouched}
use Rattle.clr_needs.specs.Parts.{setting_at}
use Rattle.clr_needs.specs.Picks.{Blocks, Picks}
use Rattle.clr_needs.specs.Settings.{Setting}
use Rattle.clr_groups.specs.Groups.{AreGroups, position_of}

-- a need is touched among all members, is picked the same witnesses in a group's setting, and is broken by the same members, told by their positions among all
pub record IsSameNeed (whole part : Setting ℕ) (group : List ℕ) (n : Need) : Type 0 where
  pub touched : IsTouched whole n
  pub pick : (p : Option (VersionId × Option VersionId)) → Picks part n p ↔ Picks whole n p
  pub blockers : (list : List ℕ) → Blocks part n list → Blocks whole n (map (position_of group) list)

-- each touched need of all members is touched in just one group, and no other need is touched there
pub record SplitNeeds (rules : List Rule) (root : Content) (sets : List Changes) (groups : List (List ℕ)) : Type 0 where
  pub some : (n : Need) → IsTouched (setting rules root sets) n
      → (i : ℕ) × (g : List ℕ) × (slice_get groups i ≡ Some g) × IsTouched (setting_at rules root sets g) n
  pub one : (i j : ℕ) (g h : List ℕ) (n : Need) → slice_get groups i ≡ Some g → slice_get groups j ≡ Some h
      → IsTouched (setting_at rules root sets g) n
      → IsTouched (setting_at rules root sets h) n
      → i ≡ j
  pub same : (i : ℕ) (g : List ℕ) (n : Need) → slice_get groups i ≡ Some g
      → IsTouched (setting_at rules root sets g) n
      → IsSameNeed (setting rules root sets) (setting_at rules root sets g) g n

-- the groups that chains of dependent pairs make split the touched needs so, where no cell is changed by two members
abbrev pub GroupsSplitNeeds : Type 0
GroupsSplitNeeds = (rules : List Rule) (root : Content) (sets : List Changes) (groups : List (List ℕ))
    → AreApart sets
    → AreGroups (setting rules root sets) groups
    → SplitNeeds rules root sets groups
