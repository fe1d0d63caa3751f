use Rattle.std.proofs.Common.{◌<◌, sym, subst, ap, ◌∙◌, Some}
use Rattle.std.specs.Option.{option_map}
use Rattle.clr_engine.specs.Drafts.{delta_in}
use Rattle.clr_engine.proofs.Readings.{delta_is, part_is, some_below}
use Rattle.clr_engine.proofs.offices.Office.delta.Goals as goal

pub returns : goal.returns
returns c =
    let o = c.args.self.now in
    let inside = c.self.inside in
    let ws = inside.tree.list in
    let at = c.args.position in
    let some = some_below at c.if-position-eq0.false in
    let lt = subst (λ n. at < n) c.len.ensures.count c.if-position-len.false in
    ap Some (c.delta.ensures ∙ c.self.invariant.2.deltas at some lt ∙ delta_is inside.schema inside.judge ws o c.len.ensures.sound c.self.view_is at some lt)
    ∙ sym (ap (option_map (delta_in o)) (part_is inside.schema inside.judge ws o c.self.view_is at some lt))
