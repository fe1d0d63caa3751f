use Rattle.std.proofs.Common.{◌≡◌, ◌++◌, ◌∙◌, inl, inr, [], ap, append-nil, arith, string_bytes, sym}
use Rattle.std.specs.List.{flat_map, zip}
use Rattle.std.proofs.lemmas.List.{nil_from_length}
use Rattle.std.proofs.lemmas.Slice.Zip.{length-zip}
use Rattle.clr_phrases.specs.Rows.{column_text}
use Rattle.clr_phrases.proofs.rows.add_values.Goals as goal

pub returns : goal.returns
returns c =
    let columns = c.loop-name.name-iterator.a.rest.now in
    let values = c.loop-name.name-iterator.b.rest.now in
    let none_left : zip columns values ≡ [] =
    nil_from_length _ (elim c.in-None.ensures.steps [
      | inl x ↦ omega (arith, length-zip columns values, x.1.0)
      | inr x ↦ omega (arith, length-zip columns values, x.1.0)
    ]) in
    sym (append-nil (string_bytes c.loop-name.text)) ∙ ap (λ left. string_bytes c.loop-name.text ++ flat_map column_text left) (sym none_left)
    ∙ c.loop-name.invariant
