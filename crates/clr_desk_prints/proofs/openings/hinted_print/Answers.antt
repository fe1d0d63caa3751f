use Rattle.std.proofs.Common.{◌≡◌, ◌∷◌, ◌∙◌, ap, refl, subst}
use Rattle.std.proofs.lemmas.Result.{IfOk-weaker}
use Rattle.clr_desk_prints.specs.NameHints.{has_unknown, refused_for, with_lines}
use Rattle.clr_desk_prints.specs.Printing.{printed}
use Rattle.clr_desk_prints.proofs.openings.hinted_print.Goals as goal

pub returns : goal.returns
returns g c =
    let bare = c.in_ok-bare.bare in
    let lines = c.in_ok-lines.lines.items in
    let unknown = has_unknown c.args.office.now (c.args.root.now ∷ c.args.names.now) in
    let told = c.refused_for-told.ensures ∙ ap (λ is_unknown. refused_for is_unknown (printed bare)) c.has_unknown-is_unknown.ensures in
    IfOk-weaker c.with_notes.result _ _ (λ p is. (
      printed bare,
      record { shown = _; shows = refl; print = bare; left = _; met = c.in_ok-bare.ensures; prints = refl },
      (
        lines,
        c.in_ok-lines.ensures,
        subst (λ ls. printed p ≡ with_lines ls (refused_for unknown (printed bare))) c.as_slice.ensures.value
            (subst (λ print. printed p ≡ with_lines c.as_slice.result.now print) told is),
      ),
    )) c.with_notes.ensures
