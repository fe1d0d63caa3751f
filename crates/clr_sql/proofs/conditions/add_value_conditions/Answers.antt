use Rattle.std.proofs.Common.{◌≡◌, ◌++◌, ◌∙◌, inl, inr, [], ap, append-nil, arith, sym}
use Rattle.std.specs.List.{flat_map, zip}
use Rattle.std.proofs.lemmas.List.{nil_from_length}
use Rattle.std.proofs.lemmas.Slice.Zip.{length-zip}
use Rattle.clr_sql.specs.Conditions.{value_condition}
use Rattle.clr_sql.proofs.conditions.add_value_conditions.Goals as goal

pub returns : goal.returns
returns c =
    let columns = c.loop-name.name-iterator.a.rest.now in
    let values = c.loop-name.name-iterator.b.rest.now in
    let none_left : zip columns values ≡ [] =
    nil_from_length _ (elim c.in-None.ensures.steps [
      | inl x ↦ omega (arith, length-zip columns values, x.1.0)
      | inr x ↦ omega (arith, length-zip columns values, x.1.0)
    ]) in
    sym (append-nil c.loop-name.text.items) ∙ ap (λ left. c.loop-name.text.items ++ flat_map value_condition left) (sym none_left)
    ∙ c.loop-name.invariant
