use Rattle.clr_needs.proofs.AuditLaws.{first_after, first_listed}
use Rattle.clr_needs.proofs.laws.first_broken_is_listed_first.Goals as goal

pub returns : goal.returns
returns c = record { after = first_after; listed = first_listed }
