use Rattle.clr_schema_explanations.specs.Names.{column_name}
use Rattle.clr_schema_explanations.proofs.NameLemmas.{one_more_name}
use Rattle.clr_schema_explanations.proofs.rule_names.add_columns.Goals as goal

pub loop-at-preserved : goal.loop-at-preserved
loop-at-preserved c =
    one_more_name (column_name c.args.key c.args.table.now) c.loop-at.names.items _ _ c.as_slice-listed.result.now c.loop-at.at c.index-listed-at.result
    _ c.loop-at-test.true c.index-listed-at.is c.in_ok-push.ensures.items (cc c.as_str.ensures) c.loop-at.invariant
