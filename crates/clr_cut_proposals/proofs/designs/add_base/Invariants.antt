use Rattle.std.proofs.Common.{◌≡◌, ◌++◌}
use Rattle.std.specs.List.{flat_map}
use Rattle.std.specs.FinMap as finite
use Rattle.clr_cut_proposals.specs.Designs.{listed_text}
use Rattle.clr_cut_proposals.proofs.designs.add_base.Given as goal

-- the cells so far, with those that are left, are all of them
abbrev pub invariant-loop-cell : goal.invariant-loop-cell
invariant-loop-cell l = l.text.items ++ flat_map (λ e. listed_text l.schema e.0) l.cell-iterator
    ≡ l.initial.text.items ++ flat_map (λ e. listed_text l.schema e.0) (finite.entries l.base)
