use Rattle.std.proofs.Common.{◌∙◌, Option, ap, is_some, sym}
use Rattle.clr_rows.specs.declared.rows.Row.{Row}
use Rattle.clr_cut_streams.proofs.TellingOn.{there_as_copied}
use Rattle.clr_cut_streams.proofs.told.is_shown.Goals as goal

pub returns-in-Beyond : goal.returns-in-Beyond
returns-in-Beyond c = rw c.in-Beyond.is (c.is_some.ensures ∙ sym (there_as_copied c.get.result) ∙ ap (λ (o : Option (Option Row)). is_some o) c.get.ensures)
