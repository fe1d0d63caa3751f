use Rattle.std.proofs.Common.{◌≡◌}
use Rattle.std.specs.Vec.Iter.{into_iter_items}
use Rattle.clr_rows.specs.Contents.{no_rows}
use Rattle.clr_office_reading.specs.Cells.{with_named_rows}
use Rattle.clr_office_reading.proofs.live.sheet.Given as goal

-- the others, put into the sheet so far, give what is meant
abbrev pub invariant-loop-named : goal.invariant-loop-named
invariant-loop-named l = with_named_rows l.schema l.sheet (into_iter_items l.named-iterator) ≡ with_named_rows l.schema no_rows l.fn.rows.items
