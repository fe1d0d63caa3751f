use Rattle.std.proofs.Common.{◌≡◌, false, map, take}
use Rattle.std.specs.List.{list_any, flat_map}
use Rattle.std.specs.Option.{option_map}
use Rattle.clr_rows.specs.Held.{held_of}
use Rattle.clr_spots.specs.Filing.{parts_at}
use Rattle.clr_audit.specs.Searches.{serves_at}
use Rattle.clr_audit.proofs.searching.Search.serves_at_spots.Given as goal

-- none of the parts that are filed at the spots so far serves
abbrev pub invariant-loop-spot : goal.invariant-loop-spot
invariant-loop-spot l =
    list_any (serves_at l.self.book.now l.ask (map held_of l.self.rows.now) (held_of l.first) (option_map held_of l.second))
    (flat_map (parts_at l.self.index.now.servers.by_spot) (take l.spot-index l.spots)) ≡ false
