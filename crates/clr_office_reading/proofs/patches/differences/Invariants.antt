use Rattle.std.proofs.Common.{◌≡◌}
use Rattle.std.specs.Vec.Iter.{into_iter_items}
use Rattle.clr_office_reading.specs.Patches.{differences_of, with_named_cells}
use Rattle.clr_office_reading.proofs.patches.differences.Given as goal

-- the other cells, put into the differences so far, give what is meant
abbrev pub invariant-loop-named : goal.invariant-loop-named
invariant-loop-named l = with_named_cells l.schema l.differences (into_iter_items l.named-iterator) ≡ differences_of l.schema l.fn.cells
