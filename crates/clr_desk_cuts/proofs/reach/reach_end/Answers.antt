use Rattle.std.proofs.Common.{refl}
use Rattle.std.proofs.lemmas.Result.{err_from_is_err_and}
use Rattle.clr_desk_cuts.proofs.reach.reach_end.Goals as goal

pub returns-in_default-clause-end : goal.returns-in_default-clause-end
returns-in_default-clause-end g c = (
  rw c.schema.ensures.value at (c.table_of.ensures.none c.in_default.is),
  (refl, refl, c.requires.writer, c.requires.notes),
)

pub pass_end-requires-clause-stands : goal.pass_end-requires-clause-stands
pass_end-requires-clause-stands g c = rw c.schema.ensures.value at (rw c.in-Some.is at c.table_of.ensures.found).1

pub returns-in_default-clause-source : goal.returns-in_default-clause-source
returns-in_default-clause-source g c = c.requires.unread.reading.unfailed

pub returns-in_err-changes-clause-source : goal.returns-in_err-changes-clause-source
returns-in_err-changes-clause-source g c =
    let p = err_from_is_err_and c.from_residual.result c.from_residual.ensures.1 in
    rw (p.1, p.2) c.requires.unread.reading.unfailed
