use Rattle.std.proofs.Common.{[], false, ℕ, List, ap, ◌∙◌}
use Rattle.clr_desk_errors.specs.Mended.{mended_text}
use Rattle.clr_desk_prints.specs.Printing.{printout_of}
use Rattle.clr_desk_errors.proofs.mended.mended_print.Goals as goal

pub returns : goal.returns
returns c =
    let lines = c.in_ok-lines.ensures ∙ (λ i. mended_text (c.schema.ensures.value i) (c.as_slice.ensures.value i)) in
    (c.in_ok-needs.needs.items, c.in_ok-needs.ensures, c.of_text.ensures ∙ ap (λ (text : List ℕ). printout_of text [] false false) lines)
