use Rattle.clr_office_writing.proofs.Plainness.{plain}
use Rattle.clr_office_writing.proofs.laws.office_text_is_plain.Goals as goal

pub returns : goal.returns
returns c = plain
