use Rattle.clr_cuts.proofs.AuditLaws.{audited_alike, audited_by_sections}
use Rattle.clr_cuts.proofs.laws.served_rows_are_audited_alike.Goals as goal

pub returns : goal.returns
returns c = record {
  rows = λ rules root rows served. audited_alike rules root rows served;
  sections = λ rules root sections are. audited_by_sections rules root sections are;
}
