use Rattle.std.proofs.Common.{◌∙◌, ◌++◌, List, Option, ap}
use Rattle.std.specs.List.{flat_map}
use Rattle.std.proofs.lemmas.Result.{on_ok_weaker}
use Rattle.clr_rules.specs.declared.sides.Side.{Side}
use Rattle.clr_serving_rows.specs.declared.servers.ServerChange.{ServerChange}
use Rattle.clr_serving_rows.specs.Servers.{server_changes}
use Rattle.clr_merge_sets.specs.MemberChanges.{set_of}
use Rattle.clr_work_orders.specs.Remedies.{giving_up, giving_up_any, keeping, server_of, serving, splitting}
use Rattle.clr_work_orders.proofs.RemedyLemmas.{behind_five}
use Rattle.clr_work_orders.proofs.remedies.add_for_need.Goals as goal

pub returns : goal.returns
returns c =
    let o = c.args.setting.office.now in
    let m = c.args.setting.members.now in
    let s = set_of m in
    let sets = m.changes.items in
    let need = c.args.need.now in
    let order = c.args.order.now in
    let places = c.need_whereabouts-places.result in
    let old = c.args.list.now.items in
    let first = c.add_serving.new.list.items in
    let second = c.add_splitting.new.list.items in
    let served = c.in_ok-add_serving.ensures
    ∙ ap (λ (side : Option Side). old ++ serving o s order side places.meeting) c.side_of.ensures in
    on_ok_weaker c.add_giving_up_any.result (λ last. λ are. (
      places,
      c.need_whereabouts-places.ensures s are,
      behind_five old (serving o s order (server_of o need) places.meeting) (splitting o s sets need places.near)
          (flat_map (keeping sets) (server_changes o s need)) (giving_up sets need.first)
          (giving_up_any sets need.second) first second c.add_keeping.new.list.items c.add_giving_up.new.list.items c.add_giving_up_any.new.list.items served
          (c.in_ok-add_splitting.ensures are)
          (c.in_ok-add_keeping.ensures ∙ ap (λ (changes : List ServerChange). second ++ flat_map (keeping sets) changes)
          (c.as_slice.ensures.value ∙ c.in_ok-changes.ensures s are)) c.in_ok-add_giving_up.ensures last,
    )) c.add_giving_up_any.ensures
