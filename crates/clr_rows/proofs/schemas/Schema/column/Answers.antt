use Rattle.std.proofs.Common.{◌≡◌, arith, Some, ap, length}
use Rattle.std.specs.Prelude.{slice_get}
use Rattle.clr_rows.proofs.SchemaLemmas.{few_columns}
use Rattle.clr_rows.proofs.schemas.Schema.column.Goals as goal

pub overflow_cast-result : goal.overflow_cast-result
overflow_cast-result c =
    let t : slice_get c.args.self.now c.args.table ≡ Some c.in_ok-table.table.now = grind arith in
    let few = few_columns c.args.self.now c.args.table c.in_ok-table.table.now c.def.ensures.sound t in
    let same = ap length c.as_slice.ensures in
    grind (arith, few, same)

pub returns-in-None : goal.returns-in-None
returns-in-None c =
    let t : slice_get c.args.self.now c.args.table ≡ Some c.in_ok-table.table.now = grind arith in
    rw (t, ← c.as_slice.ensures) c.in-None.ensures.value
