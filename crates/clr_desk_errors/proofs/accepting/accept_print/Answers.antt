use Rattle.clr_desk_errors.proofs.accepting.accept_print.Goals as goal

pub returns : goal.returns
returns c = (c.in_ok-text.text.items, c.in_ok-text.ensures, c.of_text.ensures)
