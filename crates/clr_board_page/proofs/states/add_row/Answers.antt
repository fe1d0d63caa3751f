use Rattle.std.proofs.Common.{◌∙◌, ◌++◌, ap, codes}
use Rattle.std.proofs.lemmas.Result.{on_ok_weaker}
use Rattle.clr_member_changes.specs.Counts.{counts_of}
use Rattle.clr_page_parts.specs.Counts.{counts_text}
use Rattle.clr_board_page.specs.Links.{design_link}
use Rattle.clr_board_page.specs.Said.{said_in}
use Rattle.clr_board_page.specs.States.{state_text}
use Rattle.clr_board_page.proofs.Texts.{last_text, seven_texts}
use Rattle.clr_board_page.proofs.states.add_row.Goals as goal

pub returns : goal.returns
returns c =
    let said = said_in c.args.told in
    let at = c.args.at in
    let five = c.in_ok-extend_from_slice-4.ensures.items
    ∙ ap (λ text. c.extend_from_slice-3.new.self.items ++ text) (c.as_bytes.ensures.value ∙ c.in_ok-counts.ensures ∙ ap counts_text c.count_rows.ensures) in
    on_ok_weaker c.extend_from_slice-5.result
    (λ is. seven_texts c.args.page.now.items (codes "<tr><td style=\"min-width:6em\">") (design_link said.names at) (codes "</td><td>") (state_text said at)
    (codes "</td><td>") (counts_text (counts_of c.args.set.now)) (codes "</td></tr>\n") _ _ _ _ _ _ _
    c.in_ok-extend_from_slice.ensures.items c.in_ok-add_design.ensures c.in_ok-extend_from_slice-2.ensures.items c.in_ok-add_state.ensures
    c.in_ok-extend_from_slice-3.ensures.items five is) (last_text c.extend_from_slice-5.result _ _ _ c.extend_from_slice-5.ensures.items)
