use Rattle.std.proofs.Common.{◌≡◌, ◌++◌}
use Rattle.std.specs.List.{flat_map, zip}
use Rattle.clr_cut_proposals.specs.Searches.{equal_text}
use Rattle.clr_cut_proposals.proofs.searches.add_equal_columns.Given as goal

-- the columns so far, with those that are left, are all of them
abbrev pub invariant-loop-column : goal.invariant-loop-column
invariant-loop-column l = l.text.items
    ++ flat_map (equal_text l.schema l.version l.fn.row) (zip l.column-iterator.a.rest.now l.column-iterator.b.rest.now)
    ≡ l.initial.text.items ++ flat_map (equal_text l.schema l.version l.fn.row) (zip l.columns l.others)
