use Rattle.std.proofs.Common.{sym, ◌∙◌, ap, unwrap_or, []}
use Rattle.clr_spots.specs.Filing.{Filed, parts_at}
use Rattle.clr_spots.proofs.MapLemmas.{get_listed, none_at}
use Rattle.clr_spots.proofs.spot_maps.SpotMap.parts_at.Goals as goal

pub returns-then-is_empty : goal.returns-then-is_empty
returns-then-is_empty c = none_at c.self.inside.by_spot.entries c.args.spot.now (c.is_empty.ensures.0 c.if-is_empty.true)
    ∙ ap (λ (m : Filed). parts_at m.by_spot c.args.spot.now) c.self.view_is

pub returns-in-Some : goal.returns-in-Some
returns-in-Some c = c.as_slice.ensures ∙ ap (λ o. unwrap_or o []) (c.in-Some.ensures.value ∙ sym (get_listed c.self.inside.by_spot.entries c.args.spot.now))
    ∙ ap (λ (m : Filed). parts_at m.by_spot c.args.spot.now) c.self.view_is

pub returns-in-None : goal.returns-in-None
returns-in-None c = ap (λ o. unwrap_or o []) (c.in-None.ensures.value ∙ sym (get_listed c.self.inside.by_spot.entries c.args.spot.now))
    ∙ ap (λ (m : Filed). parts_at m.by_spot c.args.spot.now) c.self.view_is
