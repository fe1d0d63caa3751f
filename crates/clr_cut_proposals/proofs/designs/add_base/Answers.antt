use Rattle.std.specs.Map.Iter.{deref_pair}
use Rattle.std.proofs.lemmas.Map.Iter.{rest_more}
use Rattle.clr_cut_proposals.specs.Designs.{listed_text}
use Rattle.clr_cut_proposals.proofs.Pieces.{text_of_first}
use Rattle.clr_cut_proposals.proofs.designs.add_base.Goals as goal

pub loop-cell-preserved : goal.loop-cell-preserved
loop-cell-preserved c =
    let left = c.next.new.self in
    let cells = c.loop-cell.cell-iterator in
    let rest = rest_more deref_pair cells left c.next.result (c.in-Some.cell, c.in-Some.field-0-1) c.in-Some.is c.next.ensures.steps in
    text_of_first (λ e. listed_text c.args.schema.now e.0) cells left (c.in-Some.cell.now, c.in-Some.field-0-1.now) _ _ _ rest
    c.in_ok-add_listed.ensures c.loop-cell.invariant
