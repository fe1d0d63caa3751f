use Rattle.std.proofs.Common.{◌∙◌, ap, sym, is_some}
use Rattle.std.specs.FinMap as finite
use Rattle.clr_finders.specs.RowMaps.{FiledRows}
use Rattle.clr_finders.proofs.MapLemmas.{get_pending}
use Rattle.clr_finders.proofs.row_maps.RowMap.first_pending.Goals as goal

pub returns-in-Some : goal.returns-in-Some
returns-in-Some c =
    let cell = c.in-Some.cell.now in
    ap (λ (r : FiledRows). is_some (finite.get r.pending cell)) (sym c.self.view_is)
    ∙ ap is_some (get_pending c.self.inside.pending.entries cell ∙ c.in-Some.ensures.value)
