use Rattle.std.proofs.Common.{◌≡◌, ◌++◌, ◌∙◌, inl, inr, [], ap, append-nil, arith, sym}
use Rattle.std.specs.List.{flat_map, zip}
use Rattle.std.proofs.lemmas.List.{nil_from_length}
use Rattle.std.proofs.lemmas.Slice.Zip.{length-zip}
use Rattle.clr_cut_proposals.specs.Searches.{equal_text}
use Rattle.clr_cut_proposals.proofs.searches.add_equal_columns.Goals as goal

pub returns : goal.returns
returns c =
    let columns = c.loop-column.column-iterator.a.rest.now in
    let others = c.loop-column.column-iterator.b.rest.now in
    let equal = equal_text c.args.schema.now c.args.version.now c.args.row.now in
    let none_left : zip columns others ≡ [] =
    nil_from_length _ (elim c.in-None.ensures.steps [
      | inl x ↦ omega (arith, length-zip columns others, x.1.0)
      | inr x ↦ omega (arith, length-zip columns others, x.1.0)
    ]) in
    sym (append-nil c.loop-column.text.items) ∙ ap (λ left. c.loop-column.text.items ++ flat_map equal left) (sym none_left) ∙ c.loop-column.invariant
