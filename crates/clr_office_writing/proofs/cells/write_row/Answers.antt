use Rattle.std.proofs.Common.{◌++◌, SFits, w64, to_z-of_z, ap, ◌∙◌, rules}
use Rattle.std.proofs.lemmas.Result.{on_ok_weaker}
use Rattle.serde_json.specs.Data.{string}
use Rattle.clr_office_writing.specs.Tokens.{tokens_of}
use Rattle.clr_office_writing.specs.Values.{list_data, number_data, value_data}
use Rattle.clr_office_writing.proofs.ListsWritten.{after}
use Rattle.clr_office_writing.proofs.cells.write_row.Goals as goal

pub returns : goal.returns
returns c =
    let fits : SFits w64 c.args.cell.key = search rules in
    on_ok_weaker c.end_object.result (λ e.
    after c.args.text.now c.begin_object.new.self _ _ _ c.in_ok-begin_object.ensures.ok (
    after c.begin_object.new.self c.key.new.self _ _ _ c.in_ok-key.ensures.ok (
    after c.key.new.self c.number.new.self _ _ _ (c.in_ok-number.ensures.ok ∙ ap (λ z. c.key.new.self ++ tokens_of (number_data z)) (to_z-of_z fits)) (
    after c.number.new.self c.key-2.new.self _ _ _ c.in_ok-key-2.ensures.ok (
    after c.key-2.new.self c.write_shape.new.text _ _ _ c.in_ok-write_shape.ensures (
    after c.write_shape.new.text c.key-3.new.self _ _ _ c.in_ok-key-3.ensures.ok (
    after c.key-3.new.self c.string.new.self _ _ _ (c.in_ok-string.ensures.ok
    ∙ ap (λ x. c.key-3.new.self ++ tokens_of (string x)) c.name_of_table.ensures.value) (
    after c.string.new.self c.key-4.new.self _ _ _ c.in_ok-key-4.ensures.ok (
    after c.key-4.new.self c.write_values.new.text _ _ _ (c.in_ok-write_values.ensures
    ∙ ap (λ x. c.key-4.new.self ++ tokens_of (list_data value_data x)) c.as_slice.ensures) e))))))))) c.end_object.ensures.ok
