use Rattle.std.proofs.Common.{arith}
use Rattle.std.proofs.lemmas.Grind.{common_steps}
use Rattle.clr_rows.proofs.SchemaLemmas.{distinct_from}
use Rattle.clr_rows.proofs.schemas.table_checks.has_distinct_columns.Goals as goal

pub returns-then-has_column : goal.returns-then-has_column
returns-then-has_column c = let e = distinct_from (λ x. x.0) c.as_slice-columns.result.now c.loop-i.i c.index-columns-i.result (omega arith)
    c.index-columns-i.is in grind (arith, common_steps, e)

pub loop-i-preserved : goal.loop-i-preserved
loop-i-preserved c = let e = distinct_from (λ x. x.0) c.as_slice-columns.result.now c.loop-i.i c.index-columns-i.result (omega arith) c.index-columns-i.is in
    grind (arith, common_steps, e)
