use Rattle.std.proofs.Common.{◌∙◌, List, Option, ap, ap₂}
use Rattle.std.specs.Prelude.{slice_get}
use Rattle.clr_rows.specs.declared.tables.TableDef.{TableDef}
use Rattle.clr_tips.specs.declared.splitting.SplitKeys.{SplitKeys}
use Rattle.clr_tips.specs.Splitting.{splits_with}
use Rattle.clr_tips.proofs.splitting.splits_by.Goals as goal

pub returns : goal.returns
returns c =
    let a = c.args in
    let table = c.def-table.ensures.value ∙ ap (λ (tables : List TableDef). slice_get tables a.side.now.table) c.schema.ensures.value in
    rw c.in-Some.is (c.in_ok-list.ensures
    ∙ ap₂ (λ (t : Option TableDef) (keys : Option SplitKeys).
    splits_with a.need.now a.version a.side.now a.place a.first.now a.second.now c.in-Some.by t keys) table c.in_ok-keys.ensures)
