use Rattle.std.proofs.Common.{arith}
use Rattle.std.proofs.lemmas.Grind.{common_steps}
use Rattle.clr_rows.proofs.SchemaLemmas.{distinct_from}
use Rattle.clr_rows.proofs.schemas.table_checks.have_distinct_names.Goals as goal

pub returns-then-has_table : goal.returns-then-has_table
returns-then-has_table c = let e = distinct_from (λ x. x.name) c.args.tables.now c.loop-i.i c.index-tables-i.result (omega arith) c.index-tables-i.is in
    grind (arith, common_steps, e)

pub loop-i-preserved : goal.loop-i-preserved
loop-i-preserved c = let e = distinct_from (λ x. x.name) c.args.tables.now c.loop-i.i c.index-tables-i.result (omega arith) c.index-tables-i.is in
    grind (arith, common_steps, e)
