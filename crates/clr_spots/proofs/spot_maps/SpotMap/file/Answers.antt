use Rattle.std.proofs.Common.{List, [], ◌∷◌, rules, subst, sym}
use Rattle.std.specs.Vec.Iter.{into_iter_items}
use Rattle.clr_rows.proofs.BeginningLaws.{all_begun, none_begun, on_err}
use Rattle.clr_spots.specs.declared.spots.Spot.{Spot}
use Rattle.clr_spots.specs.contracts.spot_maps.SpotMap as map_type
use Rattle.clr_spots.specs.Filing.{Filed, IsPartlyFiled}
use Rattle.clr_spots.proofs.Beginnings.{one_begun}
use Rattle.clr_spots.proofs.MapLemmas.{IsFiledTo, filed_next, filed_some}
use Rattle.clr_spots.proofs.spot_maps.SpotMap.file.Goals as goal

pub loop-spot-preserved : goal.loop-spot-preserved
loop-spot-preserved c =
    let old = c.args.self.now.by_spot in
    let xs = c.args.spots.list in
    let e = c.args.filed_part in
    let left = into_iter_items c.next.new.self in
    let before = subst (λ (ys : List Spot). IsFiledTo old xs e c.loop-spot.self.by_spot ys) c.in-Some.ensures.steps.0 c.loop-spot.invariant.so_far in
    record {
      by_spot = search rules;
      wide = search rules;
      all = search rules;
      so_far = subst (λ (m : Filed). IsFiledTo old xs e m.by_spot left) (sym c.in_ok-file_at.ensures.ok)
          (filed_next old xs e c.loop-spot.self.by_spot c.in-Some.spot left before);
    }

pub returns-in_err-file_at-clause-err : goal.returns-in_err-file_at-clause-err
returns-in_err-file_at-clause-err c =
    let old = c.args.self.now in
    let xs = c.args.spots.list in
    let e = c.args.filed_part in
    on_err _ (subst (IsPartlyFiled old e xs c.args.spots.wide) (sym c.in_err-file_at.ensures.err) (record {
      by_spot = filed_some old.by_spot xs e c.loop-spot.self.by_spot (into_iter_items c.loop-spot.spot-iterator) c.loop-spot.invariant.so_far;
      wide = one_begun c.args.spots.wide old.wide e c.loop-spot.self.wide c.loop-spot.invariant.wide;
      all = all_begun old.all (e ∷ []) c.loop-spot.self.all c.loop-spot.invariant.all;
    }))

pub returns-in_err-push-clause-err : goal.returns-in_err-push-clause-err
returns-in_err-push-clause-err c =
    let filed : IsPartlyFiled c.args.self.now c.args.filed_part c.args.spots.list c.args.spots.wide
    (map_type.the_view (record { by_spot = c.self.inside.by_spot; wide = c.self.inside.wide; all = c.push.new.self })) = record {
      by_spot = (0, search rules);
      wide = none_begun c.args.self.now.wide _ _ (search rules);
      all = none_begun c.args.self.now.all _ _ (search rules);
    } in
    on_err _ filed

pub returns-in_err-push-2-clause-err : goal.returns-in_err-push-2-clause-err
returns-in_err-push-2-clause-err c =
    let filed : IsPartlyFiled c.args.self.now c.args.filed_part c.args.spots.list c.args.spots.wide
    (map_type.the_view (record { by_spot = c.self.inside.by_spot; wide = c.push-then-spots.new.self; all = c.push.new.self })) = record {
      by_spot = (0, search rules);
      wide = none_begun c.args.self.now.wide _ _ (search rules);
      all = all_begun c.args.self.now.all _ _ (search rules);
    } in
    on_err _ filed
