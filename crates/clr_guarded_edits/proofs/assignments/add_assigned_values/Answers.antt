use Rattle.std.proofs.Common.{◌++◌, ◌∙◌, ap, append_assoc, arith, map, sym, take}
use Rattle.std.specs.List.{flat_map, zip}
use Rattle.clr_guarded_edits.specs.SqlTexts.{assigned}
use Rattle.clr_guarded_edits.proofs.Triples.{all_triples, triple_more}
use Rattle.clr_guarded_edits.proofs.assignments.add_assigned_values.Goals as goal

pub loop-at-preserved : goal.loop-at-preserved
loop-at-preserved c =
    let columns = c.args.columns.now in
    let old = c.args.old.now in
    let new = c.args.new.now in
    let at = c.loop-at.at in
    let front = map (λ piece. piece.items) c.args.pieces.now.items in
    let before = flat_map assigned (take at (zip columns (zip old new))) in
    let column = c.index-columns-at.result in
    let more = triple_more columns old new assigned at column c.index-old-at.result c.index-new-at.result (omega arith) (omega arith) (omega arith)
    c.index-columns-at.is c.index-old-at.is c.index-new-at.is in
    c.in_ok-add_assigned.ensures ∙ ap (λ l. l ++ assigned (column, (c.index-old-at.result, c.index-new-at.result))) c.loop-at.invariant
    ∙ append_assoc front before (assigned (column, (c.index-old-at.result, c.index-new-at.result))) ∙ ap (λ l. front ++ l) (sym more)

pub returns : goal.returns
returns c =
    c.loop-at.invariant
    ∙ ap (λ l. map (λ piece. piece.items) c.args.pieces.now.items ++ flat_map assigned l)
    (all_triples c.args.columns.now c.args.old.now c.args.new.now c.loop-at.at (omega (arith, c.min-count.ensures, c.min.ensures)))
