use Rattle.std.proofs.Common.{◌≡◌, ◌∙◌, None, ap}
use Rattle.std.specs.FinMap as finite
use Rattle.clr_finders.specs.RowMaps.{FiledRows, with_settled_row}
use Rattle.clr_grid.proofs.IndexLemmas.{filed_put, others_put}
use Rattle.clr_grid.proofs.spot_index.SpotIndex.with_row.Goals as goal

pub invariant_of-result : goal.invariant_of-result
invariant_of-result c =
    let free : finite.get c.self.inside.rows.settled c.args.cell ≡ None = ap (λ (r : FiledRows). finite.get r.settled c.args.cell) c.self.view_is
    ∙ c.requires.free in
    record {
      filed = filed_put c.self.inside.rows c.put.new.self c.args.cell c.in_ok-spots.spots c.self.inside.rules.items c.file_row.new.rules.items
          c.self.invariant.filed c.in_ok-file_row.ensures.kept c.in_ok-file_row.ensures.filed c.in_ok-put.ensures.ok;
      others = others_put c.self.inside.rows c.put.new.self c.args.cell c.in_ok-spots.spots c.self.inside.rules.items c.file_row.new.rules.items
          free c.self.invariant.others c.in_ok-file_row.ensures.only c.in_ok-put.ensures.ok;
      lean = c.in_ok-file_row.ensures.lean c.self.invariant.lean;
    }

pub returns : goal.returns
returns c = c.in_ok-put.ensures.ok ∙ (λ i. with_settled_row (c.self.view_is i) c.args.cell (c.in_ok-spots.ensures i))
