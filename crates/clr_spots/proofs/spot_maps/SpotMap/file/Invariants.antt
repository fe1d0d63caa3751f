use Rattle.std.proofs.Common.{◌≡◌}
use Rattle.std.specs.Vec.Iter.{into_iter_items}
use Rattle.clr_spots.specs.Filing.{filed_at_all, with_filed}
use Rattle.clr_spots.proofs.MapLemmas.{IsFiledTo}
use Rattle.clr_spots.proofs.spot_maps.SpotMap.file.Given as goal

-- the rest filed makes the whole, the lists are done, and the part is filed at the spots so far
abbrev pub invariant-loop-spot : goal.invariant-loop-spot
invariant-loop-spot l = record {
  by_spot : filed_at_all l.self.by_spot (into_iter_items l.spot-iterator) l.filed_part
      ≡ (with_filed l.fn.self l.fn.filed_part l.fn.spots.list l.fn.spots.wide).by_spot;
  wide : l.self.wide ≡ (with_filed l.fn.self l.fn.filed_part l.fn.spots.list l.fn.spots.wide).wide;
  all : l.self.all ≡ (with_filed l.fn.self l.fn.filed_part l.fn.spots.list l.fn.spots.wide).all;
  so_far : IsFiledTo l.fn.self.by_spot l.fn.spots.list l.fn.filed_part l.self.by_spot (into_iter_items l.spot-iterator);
}
