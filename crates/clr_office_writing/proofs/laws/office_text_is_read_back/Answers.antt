use Rattle.clr_office_writing.proofs.OfficesRead.{offices_read}
use Rattle.clr_office_writing.proofs.laws.office_text_is_read_back.Goals as goal

pub returns : goal.returns
returns c = offices_read
