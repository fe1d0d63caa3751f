use Rattle.clr_cut_proposals.specs.Searches.{has_literal}
use Rattle.clr_cut_proposals.proofs.Pieces.{all_taken, text_of_next}
use Rattle.clr_cut_proposals.proofs.searches.add_filter.Goals as goal

pub loop-literal-preserved : goal.loop-literal-preserved
loop-literal-preserved c =
    let given = c.as_slice-literal-items.ensures in
    text_of_next (has_literal c.args.schema.now c.args.row.now c.args.side.now) c.args.side.now.filter c.loop-literal.literal-index c.literal-item.result
    c.args.text.now.items c.loop-literal.text.items c.add_literal.new.text.items (rw given at c.loop-literal-test.true) (rw given at c.literal-item.is)
    c.loop-literal.invariant c.in_ok-add_literal.ensures

pub returns : goal.returns
returns c =
    all_taken (has_literal c.args.schema.now c.args.row.now c.args.side.now) c.args.side.now.filter c.loop-literal.literal-index c.args.text.now.items
    c.loop-literal.text.items (rw c.as_slice-literal-items.ensures at c.loop-literal-test.false) c.loop-literal.invariant
