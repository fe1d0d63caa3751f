-- The touched needs of a scene, each with the group in whose scene it is touched.
use Rattle.std.specs.Prelude.{◌≡◌, ℕ, true, List, Some, Contains, get_or, slice_get}
use Rattle.std.specs.Ordering.{nat_cmp, ordering_then}
use Rattle.std.specs.declared.cmp.Ordering.{Ordering}
use Rattle.clr_rows.specs.Contents.{Changes, Content}
use Rattle.clr_rules.specs.declared.rules.Rule.{Rule}
use Rattle.clr_needs.specs.Needs.{IsTouched}
use Rattle.clr_needs.specs.Orders.{need_cmp}
use Rattle.clr_needs.specs.Parts.{setting_at}
use Rattle.clr_groups.specs.declared.group_needs.GroupNeed.{GroupNeed}
use Rattle.clr_groups.specs.declared.member_needs.MemberNeed.{MemberNeed}

-- pairs of a need and a group are ordered by need, then by group
abbrev pub group_need_cmp : GroupNeed → GroupNeed → Ordering
group_need_cmp x y = ordering_then (need_cmp x.need y.need) (nat_cmp x.group y.group)

-- a need that is touched in the setting of the group at its position
abbrev pub IsTouchedAt : List Rule → Content → List Changes → List (List ℕ) → GroupNeed → Type 0
IsTouchedAt rules root sets groups x = (g : List ℕ) × (slice_get groups x.group ≡ Some g) × IsTouched (setting_at rules root sets g) x.need

-- the group at the position has the member
abbrev pub IsPlaceOf : List (List ℕ) → ℕ → ℕ → Type 0
IsPlaceOf groups x k = (g : List ℕ) × (slice_get groups k ≡ Some g) × Contains g x

-- the need of a pair that its member touches, with the place of this member
abbrev pub IsOfPlace : List ℕ → MemberNeed → GroupNeed → Type 0
IsOfPlace places p x = (p.touches ≡ true) × (x.need ≡ p.need) × (x.group ≡ get_or places p.member 0)
