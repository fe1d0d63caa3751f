use Rattle.std.proofs.Common.{◌++◌, SFits, w64, to_z-of_z, ap, ◌∙◌, rules}
use Rattle.clr_office_writing.specs.CellData.{live_data}
use Rattle.clr_office_writing.specs.OfficeData.{office_data}
use Rattle.clr_office_writing.specs.RuleData.{rules_data}
use Rattle.clr_office_writing.specs.TableData.{table_data}
use Rattle.clr_office_writing.specs.Tokens.{tokens_of}
use Rattle.clr_office_writing.specs.Values.{list_data, number_data}
use Rattle.clr_office_writing.proofs.ListsWritten.{after}
use Rattle.clr_office_texts.specs.Writing.{text_naming}
use Rattle.clr_office_texts.proofs.writing.office_text.Goals as goal

pub returns : goal.returns
unfolding office_data
returns c =
    let s = c.schema-schema.ensures.value in
    let fits : SFits w64 c.format_number.result = search rules in
    let format = c.in_ok-number.ensures.ok ∙ ap (λ z. c.key.new.self ++ tokens_of (number_data z)) (to_z-of_z fits ∙ c.format_number.ensures) in
    let live = c.in_ok-text-2.ensures ∙ (λ i. c.key-2.new.self ++ tokens_of (live_data (s i) (c.live.ensures.value i))) in
    let rules = c.in_ok-text-3.ensures ∙ (λ i. c.key-3.new.self ++ tokens_of (rules_data (s i) (c.book.ensures.value i) c.args.known.now)) in
    let tables = c.in_ok-text-4.ensures ∙ ap (λ x. c.key-4.new.self ++ tokens_of (list_data table_data x)) s in
    after c.in_ok-text.text c.begin_object.new.self _ _ _ c.in_ok-begin_object.ensures.ok (
    after c.begin_object.new.self c.key.new.self _ _ _ c.in_ok-key.ensures.ok (
    after c.key.new.self c.number.new.self _ _ _ format (
    after c.number.new.self c.key-2.new.self _ _ _ c.in_ok-key-2.ensures.ok (
    after c.key-2.new.self c.in_ok-text-2.text _ _ _ live (
    after c.in_ok-text-2.text c.key-3.new.self _ _ _ c.in_ok-key-3.ensures.ok (
    after c.key-3.new.self c.in_ok-text-3.text _ _ _ rules (
    after c.in_ok-text-3.text c.key-4.new.self _ _ _ c.in_ok-key-4.ensures.ok (
    after c.key-4.new.self c.in_ok-text-4.text _ _ _ tables (
    after c.in_ok-text-4.text c.key-5.new.self _ _ _ c.in_ok-key-5.ensures.ok (
    after c.key-5.new.self c.in_ok-text-5.text _ _ _ c.in_ok-text-5.ensures c.in_ok-end_object.ensures.ok))))))))))
    ∙ ap (λ before. before ++ tokens_of (office_data (text_naming c.args.known.now c.args.office.now))) c.in_ok-text.ensures
