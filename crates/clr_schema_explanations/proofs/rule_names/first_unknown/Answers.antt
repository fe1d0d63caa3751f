use Rattle.std.proofs.Common.{◌∙◌, sym}
use Rattle.clr_schema_explanations.specs.Names.{is_unknown}
use Rattle.clr_schema_explanations.proofs.NameLemmas.{not_this_name, this_name}
use Rattle.clr_schema_explanations.proofs.rule_names.first_unknown.Goals as goal

pub loop-name-preserved : goal.loop-name-preserved
loop-name-preserved c =
    not_this_name (is_unknown c.args.schema.now) c.args.names.now c.loop-name.name-index _ _ c.loop-name-test.true
    (sym c.is_unknown.ensures ∙ c.if-is_unknown.false) c.loop-name.invariant

pub returns-then-is_unknown : goal.returns-then-is_unknown
returns-then-is_unknown c =
    this_name (is_unknown c.args.schema.now) c.args.names.now c.loop-name.name-index _ _ c.loop-name-test.true
    (sym c.is_unknown.ensures ∙ c.if-is_unknown.true) c.loop-name.invariant
