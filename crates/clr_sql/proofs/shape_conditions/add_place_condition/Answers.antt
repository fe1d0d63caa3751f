use Rattle.std.proofs.Common.{◌≡◌, ◌++◌, OnOk, codes, rules}
use Rattle.std.proofs.lemmas.Result.{on_ok_weaker}
use Rattle.clr_sql.specs.Shapes.{coordinate_condition, place_condition}
use Rattle.clr_sql.proofs.Texts.{behind_joined}
use Rattle.clr_sql.proofs.shape_conditions.add_place_condition.Goals as goal

pub returns : goal.returns
unfolding place_condition
returns c =
    let point = c.args.point.now in
    let origin = c.args.origin in
    let place = c.args.place in
    let old = c.args.text.now.items in
    let mid = c.add_coordinate.new.text.items in
    let end = c.add_y.new.text.items in
    let x = coordinate_condition (codes "ST_X") point origin.x place.x in
    let y = coordinate_condition (codes "ST_Y") point origin.y place.y in
    let first : mid ≡ old ++ x = search rules in
    let second : OnOk c.add_y.result (end ≡ (mid ++ codes " AND ") ++ y) = search rules in
    on_ok_weaker c.add_y.result (λ is. behind_joined old x (codes " AND ") y mid end first is) second
