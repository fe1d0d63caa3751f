use Rattle.std.proofs.Common.{◌∙◌, ap, sym}
use Rattle.std.specs.FinMap as finite
use Rattle.std.specs.Option.{option_flatten}
use Rattle.clr_finders.specs.RowMaps.{FiledRows}
use Rattle.clr_finders.proofs.MapLemmas.{get_settled}
use Rattle.clr_finders.proofs.row_maps.RowMap.settled_row.Goals as goal

pub returns : goal.returns
returns c = c.row_in.ensures ∙ ap option_flatten c.get.ensures.value ∙ sym (get_settled c.self.inside.settled.entries c.args.cell)
    ∙ ap (λ (r : FiledRows). finite.get r.settled c.args.cell) c.self.view_is
