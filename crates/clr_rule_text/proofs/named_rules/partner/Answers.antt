use Rattle.std.proofs.Common.{refl}
use Rattle.clr_rule_text.specs.Rules.{partner_of}
use Rattle.clr_rule_text.proofs.named_rules.partner.Goals as goal

pub returns : goal.returns
unfolding partner_of
returns g c = rw (c.in_ok-subject.ensures, c.in_ok-columns.ensures, c.in_ok-server.ensures, c.in_ok-server_columns.ensures) refl
