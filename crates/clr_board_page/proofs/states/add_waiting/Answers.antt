use Rattle.std.proofs.Common.{◌∙◌, ◌++◌, ap, sym}
use Rattle.std.proofs.lemmas.Result.{on_ok_weaker}
use Rattle.clr_board.specs.States.{helpers_in, helpers_of}
use Rattle.clr_board_page.specs.Said.{said_in}
use Rattle.clr_board_page.specs.States.{waiting_text}
use Rattle.clr_board_page.proofs.Texts.{goes_told, waits_told}
use Rattle.clr_board_page.proofs.states.add_waiting.Goals as goal

pub returns-then-is_empty : goal.returns-then-is_empty
returns-then-is_empty c =
    let said = said_in c.args.told in
    let old = c.args.page.now.items in
    on_ok_weaker c.add_helpers.result
    (λ is. waits_told said.names c.args.earlier.now _ old _ _ (sym c.is_empty.ensures ∙ c.if-is_empty.true) c.in_ok-extend_from_slice.ensures.items is
    ∙ ap (λ clash. old ++ waiting_text said.names c.args.earlier.now (helpers_in clash)) c.clash_of.ensures) c.add_helpers.ensures

pub returns : goal.returns
returns c =
    let said = said_in c.args.told in
    on_ok_weaker c.add_designs.result
    (λ is. goes_told said.names c.args.earlier.now (helpers_of said.helped c.args.at) c.args.page.now.items _ _
    (sym c.is_empty.ensures ∙ c.if-is_empty.false) c.in_ok-extend_from_slice-2.ensures.items is) c.add_designs.ensures
