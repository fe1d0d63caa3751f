use Rattle.serde_json.specs.View.{view}
use Rattle.clr_faults.proofs.UnreadRules.{no_book}
use Rattle.clr_faults.proofs.inner_faults.rule_fault_of.Goals as goal

pub returns-in-Err-each_rule : goal.returns-in-Err-each_rule
returns-in-Err-each_rule c =
    no_book c.args.format c.args.schema.now (view c.args.json.now) c.in-Ok.stated.items c.in_ok-parts.parts.0.items c.in-Err-each_rule.fault
    c.unless_lost-in-Err-each_rule.result c.in-Ok.ensures c.in_ok-parts.ensures.rules c.in-Err-each_rule.ensures c.unless_lost-in-Err-each_rule.ensures
