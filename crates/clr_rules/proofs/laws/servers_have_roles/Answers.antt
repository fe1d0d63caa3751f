use Rattle.clr_rules.proofs.RoleLemmas.{servers_have_roles}
use Rattle.clr_rules.proofs.laws.servers_have_roles.Goals as goal

pub returns : goal.returns
returns c = servers_have_roles
