use Rattle.std.proofs.Common.{rules}
use Rattle.std.proofs.lemmas.Result.{on_err_weaker}
use Rattle.std.specs.HashMap.{get}
use Rattle.clr_spots.specs.SpotOrder.{same_spot}
use Rattle.clr_spots.proofs.MapLemmas.{same_written}
use Rattle.clr_spots.proofs.spot_maps.put_at.Goals as goal

pub returns-in-Occupied-clause-err : goal.returns-in-Occupied-clause-err
returns-in-Occupied-clause-err c =
    on_err_weaker c.push.result (λ same. same_written (get same_spot c.args.by_spot.now) _ c.args.spot c.push.new.self c.into_mut.result.now
    (λ x. search rules) same (search rules)) c.push.ensures.err
