-- The names of members, by their positions.
use Rattle.std.specs.Prelude.{ℕ, List, [], slice_get, unwrap_or}
use Rattle.clr_workspaces.specs.Marks.{Name}

-- the name of the member at a position, or no bytes past the end
abbrev pub member_name : List Name → ℕ → Name
member_name members at = unwrap_or (slice_get members at) []
