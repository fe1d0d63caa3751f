-- The member for which a merge waits that comes before its turn.
use Rattle.std.specs.Prelude.{ℕ, Bool, false, ◌&&◌, not, List, [], ◌++◌, Option, Some, None, codes, filter, find, length, option_and_then, slice_get}
use Rattle.std.specs.List.{filter_map, range_with_len}
use Rattle.std.specs.Option.{option_map_or}
use Rattle.clr_workspaces.specs.Marks.{Name}
use Rattle.clr_steps.specs.declared.commands.Reply.{Reply}
use Rattle.clr_steps.specs.Names.{has}
use Rattle.clr_check.specs.Turns.{is_done}
use Rattle.clr_ordered_clearance.specs.MergeSets.{OrderedMergeSet, goes_before}

-- the merge at a position was done
abbrev pub is_done_at : List Reply → ℕ → Bool
is_done_at replies at = option_map_or is_done (slice_get replies at) false

-- the names of the merges that were done
abbrev pub done_names : List Name → List Reply → List Name
done_names names replies = filter_map (slice_get names) (filter (is_done_at replies) (range_with_len 0 (length replies)))

-- a name waits for a member that goes before it and isn't among those whose merge was done
abbrev pub is_awaited : OrderedMergeSet → List Name → Name → Name → Bool
is_awaited ordered done name member = goes_before ordered member name && not (has done member)

-- the first member of the list for which a name waits
abbrev pub first_awaited : OrderedMergeSet → List Name → Name → Option Name
first_awaited ordered done name = find (is_awaited ordered done name) ordered.merge_set.members

abbrev pub waiting_line : Option Name → List ℕ
waiting_line None = []
waiting_line (Some member) = codes "waits for " ++ member ++ codes "\n"

-- for whom the first merge waits that wasn't made, where it waits for one: it stands behind as many as there are replies
abbrev pub waiting_text : OrderedMergeSet → List Name → List Reply → List ℕ
waiting_text ordered names replies = waiting_line (option_and_then (first_awaited ordered (done_names names replies)) (slice_get names (length replies)))
