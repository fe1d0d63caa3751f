use Rattle.std.proofs.Common.{◌++◌, ap, ◌∙◌}
use Rattle.clr_office_reading.specs.Offices.{office_read}
use Rattle.clr_office_writing.specs.RuleData.{rules_data}
use Rattle.clr_office_writing.specs.Tokens.{tokens_of}
use Rattle.clr_office_writing.proofs.ListsWritten.{after}
use Rattle.clr_cut_texts.specs.CutTexts.{cut_data}
use Rattle.clr_cut_texts.proofs.writing.cut_tokens.Goals as goal

pub returns : goal.returns
unfolding cut_data
returns c =
    let office = office_read c.args.office in
    let rules = c.in_ok-text-3.ensures ∙ ap (λ known. c.key-4.new.self ++ tokens_of (rules_data office.schema office.book known)) c.as_slice.ensures in
    after c.in_ok-text.text c.begin_object.new.self _ _ _ c.in_ok-begin_object.ensures.ok (
    after c.begin_object.new.self c.key.new.self _ _ _ c.in_ok-key.ensures.ok (
    after c.key.new.self c.boolean.new.self _ _ _ c.in_ok-boolean.ensures.ok (
    after c.boolean.new.self c.key-2.new.self _ _ _ c.in_ok-key-2.ensures.ok (
    after c.key-2.new.self c.number.new.self _ _ _ c.in_ok-number.ensures.ok (
    after c.number.new.self c.key-3.new.self _ _ _ c.in_ok-key-3.ensures.ok (
    after c.key-3.new.self c.in_ok-text-2.text _ _ _ c.in_ok-text-2.ensures (
    after c.in_ok-text-2.text c.key-4.new.self _ _ _ c.in_ok-key-4.ensures.ok (
    after c.key-4.new.self c.in_ok-text-3.text _ _ _ rules (
    after c.in_ok-text-3.text c.key-5.new.self _ _ _ c.in_ok-key-5.ensures.ok (
    after c.key-5.new.self c.in_ok-text-4.text _ _ _ c.in_ok-text-4.ensures (
    after c.in_ok-text-4.text c.key-6.new.self _ _ _ c.in_ok-key-6.ensures.ok (
    after c.key-6.new.self c.in_ok-text-5.text _ _ _ c.in_ok-text-5.ensures c.in_ok-end_object.ensures.ok))))))))))))
    ∙ ap (λ before. before ++ tokens_of (cut_data office)) c.in_ok-text.ensures
