use Rattle.std.proofs.Common.{◌≡◌, ◌∷◌, [], map, take}
use Rattle.std.specs.Option.{option_copied}
use Rattle.clr_rows.specs.Contents.{Content, row_at}
use Rattle.clr_deltas.specs.Deltas.{whole_mark, EachMarkStores, StayOwnBeside}
use Rattle.clr_deltas.proofs.stored_marks.store_in_each.Given as goal

abbrev pub invariant-loop-i : goal.invariant-loop-i
invariant-loop-i l = record {
  seen : (base : Content) → row_at base l.cell ≡ option_copied l.row → map (whole_mark base) l.marks.items ≡ map (whole_mark base) l.fn.marks.items;
  is_stored : EachMarkStores (take l.i l.marks.items) l.cell;
  others : StayOwnBeside (l.cell ∷ []) l.fn.marks.items l.marks.items;
}
