use Rattle.clr_rule_text.proofs.EachIn.{each_seen}
use Rattle.clr_rule_text.proofs.lists.read_items.Goals as goal

pub returns : goal.returns
returns g c = λ f reads. rw (each_seen g.J.JsonValue.stands_for f c.args.items.now) (c.read_each.ensures (λ v. f (g.J.JsonValue.stands_for v)) reads)
