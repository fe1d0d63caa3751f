use Rattle.std.proofs.Common.{map, subst}
use Rattle.clr_merge_sets.specs.MergeSetNames.{merge_set}
use Rattle.clr_scene_orders.specs.SceneOrders.{IsSceneOrder}
use Rattle.clr_merge_orders.proofs.PromiseLaws.{found_in_scene}
use Rattle.clr_merge_orders.proofs.merge_orders.order_of_parts.Goals as goal

pub returns-in_ok-order-in-Ok-clause-found : goal.returns-in_ok-order-in-Ok-clause-found
returns-in_ok-order-in-Ok-clause-found c =
    let s = merge_set c.args.root.now (map (λ name. name.now) c.args.members.now) in
    let of = c.in-Ok.ensures.scene s c.requires.parts in
    let order = c.in_ok-order-in-Ok.order in
    found_in_scene c.args.office.now s order (record {
      free = c.requires.parts.free;
      apart = of.apart;
      told = subst (λ d. IsSceneOrder d order) of.setting c.in_ok-order-in-Ok.ensures;
    })
