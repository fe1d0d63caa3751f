use Rattle.std.proofs.Common.{◌≡◌, ◌++◌, take}
use Rattle.std.specs.List.{flat_map}
use Rattle.clr_spots.specs.Filing.{parts_at}
use Rattle.clr_spots.proofs.spot_maps.SpotMap.add_near.Given as goal

-- the parts of wide rows and those of the spots so far were added
abbrev pub invariant-loop-spot : goal.invariant-loop-spot
invariant-loop-spot l = l.list.items ≡ (l.fn.list.items ++ l.self.wide) ++ flat_map (parts_at l.self.by_spot) (take l.spot-index l.spots.list)
