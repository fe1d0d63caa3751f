use Rattle.std.proofs.Common.{◌∙◌, sym}
use Rattle.clr_cut_rows.proofs.SearchLemmas.{changed_told, unchanged_told}
use Rattle.clr_cut_rows.proofs.cut_rows.CutRows.belongs.Goals as goal

pub returns-then-is_some : goal.returns-then-is_some
returns-then-is_some g c = changed_told c.changer.result _ c.changer.ensures.first (sym c.is_some.ensures ∙ c.if-is_some.true)

pub returns : goal.returns
returns g c = unchanged_told c.changer.result _ c.changer.ensures.first c.in_ok-found.found (sym c.is_some.ensures ∙ c.if-is_some.false) c.in_ok-found.ensures
