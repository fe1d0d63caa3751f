use Rattle.std.proofs.Common.{ap, sym, ◌∙◌}
use Rattle.std.proofs.lemmas.Result.{IfOk-weaker}
use Rattle.clr_office_reading.specs.Offices.{known_if_read, known_in}
use Rattle.clr_office_texts.proofs.reading.read_office.Goals as goal

pub returns-clause-known : goal.returns-clause-known
unfolding known_in
returns-clause-known c =
    IfOk-weaker c.draft_text.result _ _ (λ text is. is ∙ sym (ap known_if_read c.in_ok-read_office.ensures.value)) c.draft_text.ensures.known
