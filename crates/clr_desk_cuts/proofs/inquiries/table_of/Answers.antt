use Rattle.std.proofs.Common.{sym}
use Rattle.clr_desk_cuts.proofs.ReachLemmas.{table_stands}
use Rattle.clr_desk_cuts.proofs.inquiries.table_of.Goals as goal

pub returns-in_err-def-clause-none : goal.returns-in_err-def-clause-none
returns-in_err-def-clause-none c = λ _.
    absurd (table_stands c.args.schema.now c.args.name.now c.in_ok-at.at (sym c.in_ok-at.ensures.value) (sym c.in_err-def.ensures.value))

pub returns-clause-found : goal.returns-clause-found
returns-clause-found c = (sym c.in_ok-at.ensures.value, sym c.in_ok-def.ensures.value)
