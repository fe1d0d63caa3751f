use Rattle.std.proofs.Common.{Some, ap, ◌∙◌}
use Rattle.clr_rule_text.specs.Seen.{items_seen, seen}
use Rattle.clr_rule_text.proofs.JsonSeen.{array_seen}
use Rattle.clr_rule_text.proofs.borrowed.ValueJsonValue.items.Goals as goal

pub returns-in-Array : goal.returns-in-Array
returns-in-Array c = ap (λ vs. Some (items_seen seen vs)) c.as_slice.ensures.value ∙ array_seen c.args.self.now c.in-Array.list c.in-Array.is
