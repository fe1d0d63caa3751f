-- Pairs of positions, of which the first goes before the second.
use Rattle.std.specs.Prelude.{◌≡◌, ℕ, Bool, false, ◌&&◌, ◌==◌, List, Option, Some, None}
use Rattle.std.specs.List.{list_any}
use Rattle.clr_workspaces.specs.Marks.{Name}
use Rattle.clr_steps.specs.Names.{same_name}
use Rattle.clr_ordered_clearance.specs.MergeSets.{OrderedMergeSet, position_goes_before}
use Rattle.clr_merge_sets.specs.declared.precedence_pairs.PositionPair.{PositionPair}

-- the pair is of these positions
abbrev pub pair_is : ℕ → ℕ → PositionPair → Bool
pair_is j k p = p.earlier == j && p.later == k

-- one of the pairs says that the one position goes before the other
abbrev pub pairs_say : List PositionPair → ℕ → ℕ → Bool
pairs_say pairs j k = list_any (pair_is j k) pairs

-- the pairs say of members by position who goes before whom
abbrev pub SayWhoGoesBefore : OrderedMergeSet → List PositionPair → Type 0
SayWhoGoesBefore ordered pairs = (j k : ℕ) → pairs_say pairs j k ≡ position_goes_before ordered j k

-- one name of a list -------------------------------------------------------------------------------

-- the position that was found, if any, is this one
abbrev pub is_position : Option ℕ → ℕ → Bool
is_position None at = false
is_position (Some position) at = position == at

-- the member of a position, if there is one, has the name
abbrev pub is_at : Option Name → Name → Bool
is_at None name = false
is_at (Some member) name = same_name name member

-- the pair that was found, if any, is of these positions
abbrev pub is_pair : Option PositionPair → ℕ → ℕ → Bool
is_pair None j k = false
is_pair (Some p) j k = pair_is j k p
