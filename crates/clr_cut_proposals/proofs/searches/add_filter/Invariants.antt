use Rattle.std.proofs.Common.{◌≡◌, ◌++◌, take}
use Rattle.std.specs.List.{flat_map}
use Rattle.clr_cut_proposals.specs.Searches.{has_literal}
use Rattle.clr_cut_proposals.proofs.searches.add_filter.Given as goal

-- the literals so far are added
abbrev pub invariant-loop-literal : goal.invariant-loop-literal
invariant-loop-literal l = l.text.items ≡ l.initial.text.items
    ++ flat_map (has_literal l.schema l.row l.side) (take l.literal-index l.side.filter)
