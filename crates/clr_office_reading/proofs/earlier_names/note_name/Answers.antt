use Rattle.std.proofs.Common.{sym, ◌∙◌}
use Rattle.clr_office_reading.proofs.NameTurns.{named_more}
use Rattle.clr_office_reading.proofs.earlier_names.note_name.Goals as goal

pub returns-clause-noted : goal.returns-clause-noted
returns-clause-noted c = λ earlier l named same. named_more c.args.names.now c.insert.new.self c.into_string.result earlier l named (c.into_string.ensures
    ∙ c.in_ok-copy.ensures ∙ sym same) c.in_ok-insert.ensures.updates
