-- Labels of members: two have the same one exactly where they stand in one group.
use Rattle.std.specs.Prelude.{◌≡◌, ◌≢◌, ◌↔◌, ◌⊎◌, ◌<◌, ◌-◌, ◌==◌, ℕ, List, Some, Contains, get_or, length, slice_get, if◌then◌else◌}
use Rattle.std.specs.Ordering.{nat_cmp}
use Rattle.clr_needs.specs.Needs.{Lists}
use Rattle.clr_needs.specs.Settings.{Setting}
use Rattle.clr_groups.specs.declared.member_needs.MemberNeed.{MemberNeed}
use Rattle.clr_groups.specs.Groups.{AreJoined}

-- the label of a member
abbrev pub label : List ℕ → ℕ → ℕ
label labels x = get_or labels x 0

-- each member below a number has a label below it, and two have the same one where a chain of dependent pairs joins them
pub record AreLabels (c : Setting ℕ) (count : ℕ) (labels : List ℕ) : Type 0 where
  pub long : length labels ≡ count
  pub below : (x : ℕ) → x < count → label labels x < count
  pub exact : (x y : ℕ) → x < count → y < count → (label labels x ≡ label labels y) ↔ AreJoined c x y

-- one label in place of another --------------------------------------------------------------

abbrev pub moved_label : ℕ → ℕ → ℕ → ℕ
moved_label from to l = if l == from then to else l

-- all that had one label have another one
pub record AreMoved (from to : ℕ) (old new : List ℕ) : Type 0 where
  pub long : length new ≡ length old
  pub each : (k : ℕ) → k < length old → label new k ≡ moved_label from to (label old k)

-- where the pair at a position has the need of the one before it, the member of the latter gives its label to all that have that of the former
abbrev pub IsJoinedAt : List MemberNeed → ℕ → List ℕ → List ℕ → Type 0
IsJoinedAt list at old new = (x y : MemberNeed) → slice_get list (at - 1) ≡ Some x → slice_get list at ≡ Some y
    → ((x.need ≢ y.need) × (new ≡ old)) ⊎ ((x.need ≡ y.need) × AreMoved (label old y.member) (label old x.member) old new)

-- groups by labels ---------------------------------------------------------------------------

-- a member that has the label
pub record IsLabelled (labels : List ℕ) (l x : ℕ) : Type 0 where
  pub within : x < length labels
  pub is : label labels x ≡ l

-- for each label that a member has, those that have it
pub record AreGroupsBy (labels : List ℕ) (groups : List (List ℕ)) : Type 0 where
  pub each : (i : ℕ) (g : List ℕ) → slice_get groups i ≡ Some g → (l : ℕ) × Lists nat_cmp (IsLabelled labels l) g
  pub filled : (i : ℕ) (g : List ℕ) → slice_get groups i ≡ Some g → (x : ℕ) × Contains g x
  pub every : (x : ℕ) → x < length labels → (g : List ℕ) × Contains groups g × Contains g x
  pub one : (i j : ℕ) (g h : List ℕ) (x y : ℕ) → slice_get groups i ≡ Some g → slice_get groups j ≡ Some h → Contains g x → Contains h y
      → label labels x ≡ label labels y
      → i ≡ j
