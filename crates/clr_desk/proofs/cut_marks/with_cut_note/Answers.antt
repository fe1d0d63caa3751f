use Rattle.std.proofs.Common.{◌≡◌, ◌∙◌, ap, rules, sym, true}
use Rattle.std.proofs.lemmas.Result.{IfOk-weaker}
use Rattle.clr_cut_texts.specs.Marks.{is_cut_text}
use Rattle.clr_desk_prints.specs.Printing.{printed}
use Rattle.clr_desk.specs.CutMarks.{with_cut_note}
use Rattle.clr_desk.proofs.cut_marks.with_cut_note.Goals as goal

pub returns-then-branch : goal.returns-then-branch
returns-then-branch c =
    let is : is_cut_text c.args.office.now ≡ true = search rules in
    IfOk-weaker c.with_notes.result _ _ (λ p e. e ∙ ap (λ of_cut. with_cut_note of_cut (printed c.args.print)) (sym is)) c.with_notes.ensures
