use Rattle.std.specs.Result.{OnOk}
use Rattle.std.specs.declared.result.Result.{Result}
use Rattle.std.specs.declared.result.Result.TheVariants.{Ok, Err}
use Rattle.clr_foot.specs.Scenes.{setting_in}
use Rattle.clr_groups.proofs.MemberNeedLists.{need_with_both, need_with_first}
use Rattle.clr_groups.proofs.member_needs.add_need.Goals as goal

pub returns-in-None : goal.returns-in-None
returns-in-None g c =
    need_with_first (setting_in g.V.RowView.content c.args.scene.now) c.args.member c.args.touches c.args.need c.requires _ _ _ c.in_ok-push.ensures.items
    c.in_ok-add_changer.ensures c.in-None.is

on_ok : {A E : Type 0} (P Q : Type 0) (r : Result A E) → (P → Q) → OnOk r P → OnOk r Q
on_ok P Q (Ok x) f p = f p
on_ok P Q (Err e) f p = tt

pub returns-in-Some : goal.returns-in-Some
returns-in-Some g c =
    on_ok _ _ c.add_changer-in-Some.result
    (λ gains. need_with_both (setting_in g.V.RowView.content c.args.scene.now) c.args.member c.args.touches c.args.need c.requires c.in-Some.second _ _ _ _
    c.in_ok-push.ensures.items c.in_ok-add_changer.ensures c.in-Some.is gains)
    c.add_changer-in-Some.ensures
