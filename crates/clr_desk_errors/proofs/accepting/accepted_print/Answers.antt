use Rattle.std.proofs.Common.{false, ℕ, List, ap, subst, ◌∙◌}
use Rattle.clr_steps.specs.Offices.{Office}
use Rattle.clr_desk_errors.specs.Accepting.{IsAccepted, accepted_text}
use Rattle.clr_desk_prints.specs.Printing.{printout_of}
use Rattle.clr_desk_errors.proofs.accepting.accepted_print.Goals as goal

pub returns : goal.returns
returns c =
    let text = c.in_ok-text.text.items in
    let notes = c.in_ok-notes.ensures ∙ ap accepted_text c.in_ok-office.ensures in (
      text,
      subst (λ (o : Office). IsAccepted o text) c.in_ok-office.ensures c.in_ok-text.ensures,
      c.new.ensures ∙ ap (λ (lines : List ℕ). printout_of text lines false false) notes,
    )
