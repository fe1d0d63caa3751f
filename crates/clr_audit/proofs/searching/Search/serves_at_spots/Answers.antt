use Rattle.std.proofs.Common.{◌∙◌, ap, map, sym}
use Rattle.std.specs.List.{list_any}
use Rattle.std.specs.Option.{option_map}
use Rattle.clr_rows.specs.Held.{held_of}
use Rattle.clr_rules.proofs.Elements.{among}
use Rattle.clr_spots.specs.Filing.{parts_at}
use Rattle.clr_audit.specs.Searches.{serves_at}
use Rattle.clr_audit.proofs.NeedLaws.{any_flat}
use Rattle.clr_audit.proofs.searching.Search.serves_at_spots.Goals as goal

pub returns-then-serves_among : goal.returns-then-serves_among
returns-then-serves_among c =
    let test = serves_at c.args.self.now.book.now c.args.ask (map held_of c.args.self.now.rows.now) (held_of c.args.first) (option_map held_of c.args.second) in
    sym (any_flat test (parts_at c.args.self.now.index.now.servers.by_spot) c.spot-item.result c.args.spots.now (among c.spot-item.result c.args.spots.now
    (c.loop-spot.spot-index, c.loop-spot-test.true, sym c.spot-item.is))
    (ap (list_any test) (sym c.parts_at.ensures) ∙ sym c.serves_among.ensures ∙ c.if-serves_among.true))
