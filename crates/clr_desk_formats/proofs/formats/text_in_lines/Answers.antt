use Rattle.std.proofs.Common.{◌≡◌, ◌∙◌, ◌++◌, ◌∷◌, [], None, Ok, ap, subst, sym}
use Rattle.clr_office_texts.specs.Drafts.{opened_in}
use Rattle.clr_office_texts.specs.Writing.{text_of}
use Rattle.clr_office_writing.specs.OfficeData.{office_data}
use Rattle.clr_desk_formats.specs.Formats.{in_lines, in_one_line, lines_of}
use Rattle.clr_desk_formats.specs.LineEnds.{lined}
use Rattle.clr_desk_formats.proofs.LinedTexts.{lined_value}
use Rattle.clr_desk_formats.proofs.formats.text_in_lines.Goals as goal

pub returns-then-branch : goal.returns-then-branch
returns-then-branch c =
    let o = c.args.office.now in
    let lined_is = c.in_ok-lines.ensures ∙ ap lined (c.as_slice.ensures.value ∙ c.in_ok-text.ensures.text) ∙ (lined_value (office_data (text_of o))).text 10 in
    let lines : c.push.new.self.items ≡ lines_of o = c.in_ok-push.ensures.items ∙ ap (λ l. l ++ 10 ∷ []) lined_is in
    in_lines lines (subst (λ t. opened_in t ≡ Ok (o, None)) c.as_slice-2.ensures.value (c.in_ok-is_read_as.ensures.yes c.if-branch.true))

pub returns : goal.returns
returns c =
    let o = c.args.office.now in
    let lined_is = c.in_ok-lines.ensures ∙ ap lined (c.as_slice.ensures.value ∙ c.in_ok-text.ensures.text) ∙ (lined_value (office_data (text_of o))).text 10 in
    let lines : c.push.new.self.items ≡ lines_of o = c.in_ok-push.ensures.items ∙ ap (λ l. l ++ 10 ∷ []) lined_is in
    in_one_line (λ e. c.in_ok-is_read_as.ensures.no c.if-branch.false (subst (λ t. opened_in t ≡ Ok (o, None)) (sym (c.as_slice-2.ensures.value ∙ lines)) e))
    c.in_ok-text.ensures.text c.in_ok-text.ensures.admitted
