use Rattle.clr_schema_explanations.specs.Names.{literal_name}
use Rattle.clr_schema_explanations.proofs.NameLemmas.{one_more_name}
use Rattle.clr_schema_explanations.proofs.rule_names.add_literals.Goals as goal

pub loop-at-preserved : goal.loop-at-preserved
loop-at-preserved c =
    one_more_name (literal_name c.args.key c.args.side.now.table) c.loop-at.names.items _ _ c.as_slice-literals.result.now c.loop-at.at
    c.index-literals-at.result _ c.loop-at-test.true c.index-literals-at.is c.in_ok-push.ensures.items
    (cc (c.as_str.ensures, c.as_str-in-loop-at.ensures)) c.loop-at.invariant
