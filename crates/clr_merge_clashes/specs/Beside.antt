-- The members that weren't looked at with the others.
use Rattle.std.specs.Prelude.{◌==◌, ℕ, Bool, not, List, filter, length}
use Rattle.std.specs.List.{list_any, range_with_len}
use Rattle.clr_workspaces.specs.Marks.{Name}
use Rattle.clr_steps.specs.Quiet.{MergeSet}
use Rattle.clr_clearance.specs.Plans.{members_at}

-- a position that isn't among those that were looked at
abbrev pub is_beside : List ℕ → ℕ → Bool
is_beside looked at = not (list_any (λ x. x == at) looked)

abbrev pub beside : MergeSet → List ℕ → List Name
beside s looked = members_at s (filter (is_beside looked) (range_with_len 0 (length s.members)))
