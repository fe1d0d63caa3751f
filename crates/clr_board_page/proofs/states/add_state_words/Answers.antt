use Rattle.std.proofs.Common.{◌∙◌, ◌++◌, ap, codes, sym}
use Rattle.std.proofs.lemmas.Result.{on_ok_weaker}
use Rattle.clr_svg.specs.Escapes.{escaped}
use Rattle.clr_board_page.specs.Said.{said_in}
use Rattle.clr_board_page.specs.States.{state_words}
use Rattle.clr_board_page.proofs.Texts.{two_texts}
use Rattle.clr_board_page.proofs.states.add_state_words.Goals as goal

pub returns-in_ok-extend_from_slice-in-Conflicted : goal.returns-in_ok-extend_from_slice-in-Conflicted
returns-in_ok-extend_from_slice-in-Conflicted c =
    let old = c.args.page.now.items in
    on_ok_weaker c.add_escaped.result
    (λ is. two_texts old (codes "<b class=\"bad\">in conflict</b> with ") (escaped c.as_bytes.result.now) _ _
    c.in_ok-extend_from_slice-in-Conflicted.ensures.items is
    ∙ ap (λ root. old ++ (codes "<b class=\"bad\">in conflict</b> with " ++ escaped root)) c.as_bytes.ensures.value
    ∙ ap (λ state. old ++ state_words (said_in c.args.told) c.args.at state) (sym c.in-Conflicted.is)) c.add_escaped.ensures
