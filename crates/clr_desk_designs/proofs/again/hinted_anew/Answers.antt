use Rattle.std.proofs.Common.{◌≡◌, ◌∷◌, [], ◌∙◌, ap, refl, subst}
use Rattle.std.proofs.lemmas.Result.{err_from_is_err_and}
use Rattle.clr_desk_prints.specs.NameHints.{has_unknown, refused_for, with_lines}
use Rattle.clr_desk_prints.specs.Printing.{printed}
use Rattle.clr_desk_designs.specs.Again.{IsDesignAnewPrint}
use Rattle.clr_desk_designs.proofs.HintLemmas.{hinted_fault}
use Rattle.clr_desk_designs.proofs.again.hinted_anew.Goals as goal

pub returns-in_err-bare : goal.returns-in_err-bare
returns-in_err-bare c =
    let name = c.args.name.now in
    let e = err_from_is_err_and c.from_residual-in_err-bare.result c.from_residual-in_err-bare.ensures.1 in
    rw (e.1, e.2) (hinted_fault (IsDesignAnewPrint c.args.copied.now name c.args.options c.args.may_remove c.args.layers.now) (name ∷ []) c.args.opened.now
    (λ e. (c.in_ok-lines.lines.items, c.in_ok-lines.ensures, refl)) c.in_err-bare.field-0.0 c.in_err-bare.ensures)

pub returns : goal.returns
returns c =
    let bare = c.in_ok-bare.bare in
    let lines = c.in_ok-lines.lines.items in
    let unknown = has_unknown c.args.opened.now (c.args.name.now ∷ []) in
    let told = c.refused_for-told.ensures ∙ ap (λ is_unknown. refused_for is_unknown (printed bare)) c.has_unknown-is_unknown.ensures in (
      printed bare,
      c.in_ok-bare.ensures,
      (
        lines,
        c.in_ok-lines.ensures,
        subst (λ ls. printed c.in_ok-print.print ≡ with_lines ls (refused_for unknown (printed bare))) c.as_slice.ensures.value
            (subst (λ print. printed c.in_ok-print.print ≡ with_lines c.as_slice.result.now print) told c.in_ok-print.ensures),
      ),
    )
