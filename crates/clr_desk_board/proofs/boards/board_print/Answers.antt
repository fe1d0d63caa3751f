use Rattle.std.proofs.Common.{◌≡◌, ◌∙◌, false, length, nat_lt}
use Rattle.clr_desk_prints.specs.Printing.{printout_of}
use Rattle.clr_desk_board.proofs.boards.board_print.Goals as goal

pub returns : goal.returns
returns c =
    let found = c.args.found.now in
    let text = c.in_ok-text.text.items in
    let clashes : c.as_slice.result.now ≡ found.clashes.items = c.as_slice.ensures.value in (
      text,
      c.in_ok-text.ensures.page,
      c.new-2.ensures ∙ (λ i. printout_of text (c.new.ensures.items i) (nat_lt 0 (length (clashes i))) false),
    )
