use Rattle.clr_rule_text.proofs.JsonSeen.{member_seen}
use Rattle.clr_rule_text.proofs.borrowed.ValueJsonValue.member.Goals as goal

pub returns : goal.returns
returns c = member_seen c.args.self.now c.args.key.now c.get.result c.get.ensures
