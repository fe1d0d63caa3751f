use Rattle.std.proofs.Common.{◌≡◌, ◌∙◌, ap}
use Rattle.clr_spots.specs.Filing.{Filed, PartsBySpot, filed_at}
use Rattle.clr_rows.proofs.BeginningLaws.{on_err}
use Rattle.clr_spots.proofs.MapLemmas.{one_listed, filed_more, same_listed}
use Rattle.clr_spots.proofs.spot_maps.SpotMap.file_at.Goals as goal

-- a map that has these parts by spot, and all else as before
with_spots : (before inside : Filed) (filed after : PartsBySpot) → inside ≡ before → after ≡ filed
    → ◌≡◌ {A = Filed} (record { by_spot = after; wide = inside.wide; all = inside.all }) (record { by_spot = filed; wide = before.wide; all = before.all })
with_spots before inside filed after same e = λ i. record { by_spot = e i; wide = (same i).wide; all = (same i).all }

pub returns-clause-ok : goal.returns-clause-ok
returns-clause-ok c =
    let es = c.self.inside.by_spot.entries in
    with_spots c.args.self.now _ (filed_at c.args.self.now.by_spot c.args.spot c.args.filed_part) _ c.self.view_is
    (one_listed es c.put_at.new.by_spot.entries c.args.spot _ c.in_ok-put_at.ensures.ok ∙ filed_more es c.args.spot c.args.filed_part
    ∙ ap (λ (m : Filed). filed_at m.by_spot c.args.spot c.args.filed_part) c.self.view_is)

pub returns-in_err-put_at-clause-err : goal.returns-in_err-put_at-clause-err
returns-in_err-put_at-clause-err c =
    on_err _ (with_spots c.args.self.now _ c.args.self.now.by_spot _ c.self.view_is
    (same_listed c.self.inside.by_spot.entries c.put_at.new.by_spot.entries c.in_err-put_at.ensures.err
    ∙ ap (λ (m : Filed). m.by_spot) c.self.view_is))
