use Rattle.std.proofs.Common.{Contains, subst, sym}
use Rattle.std.specs.List.Sorted.{IsStrictlySortedBy}
use Rattle.clr_foot.specs.Scenes.{model_of, setting_of}
use Rattle.clr_needs.specs.Orders.{need_cmp}
use Rattle.clr_needs.specs.Tests.{IsTestOf}
use Rattle.clr_clash_helpers.proofs.HelperLemmas.{touched_told}
use Rattle.clr_clash_helpers.proofs.touching.is_touched.Goals as goal

pub is_among-requires : goal.is_among-requires
is_among-requires g c = subst (IsStrictlySortedBy need_cmp) (sym c.as_slice.ensures.value) c.in_ok-needs.ensures.ascending

pub returns : goal.returns
returns g c =
    let told = c.is_among.result in
    touched_told (setting_of (model_of g.V.RowView.content c.args.scene.now)) c.args.need.now c.in_ok-needs.needs.items told c.in_ok-needs.ensures
    (subst (λ needs. IsTestOf told (Contains needs c.args.need.now)) c.as_slice.ensures.value c.is_among.ensures)
