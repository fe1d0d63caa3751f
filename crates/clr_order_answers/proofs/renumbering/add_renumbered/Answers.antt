use Rattle.std.proofs.Common.{length, refl, subst, sym}
use Rattle.std.proofs.lemmas.Option.{slice_get_read}
use Rattle.clr_order_answers.specs.Renumbering.{AddsRenumbered}
use Rattle.clr_order_answers.proofs.renumbering.add_renumbered.Goals as goal

pub returns : goal.returns
returns c =
    let needs = c.args.needs.now in
    subst (λ o. AddsRenumbered c.args.list.now o c.args.renumbered.now.items c.push.new.self.items)
    (sym (slice_get_read needs (length needs) c.args.at c.index-needs-at.result refl c.if-at-needs.false c.index-needs-at.is))
    (c.in_ok-other.other, c.in_ok-other.ensures, c.in_ok-push.ensures.items)
