use Rattle.clr_rules.proofs.RoleLemmas.{subjects_have_roles}
use Rattle.clr_rules.proofs.laws.subjects_have_roles.Goals as goal

pub returns : goal.returns
returns c = subjects_have_roles
