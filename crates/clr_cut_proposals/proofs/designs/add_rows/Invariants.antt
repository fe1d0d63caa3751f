use Rattle.std.proofs.Common.{◌≡◌, ◌++◌}
use Rattle.std.specs.List.{flat_map}
use Rattle.std.specs.FinMap as finite
use Rattle.clr_cut_proposals.specs.Designs.{brought_text}
use Rattle.clr_cut_proposals.proofs.designs.add_rows.Given as goal

-- the rows so far, with those that are left, are all of them
abbrev pub invariant-loop-cell : goal.invariant-loop-cell
invariant-loop-cell l = l.text.items ++ flat_map (brought_text l.target l.schema) l.cell-iterator
    ≡ l.initial.text.items ++ flat_map (brought_text l.target l.schema) (finite.entries l.rows)
