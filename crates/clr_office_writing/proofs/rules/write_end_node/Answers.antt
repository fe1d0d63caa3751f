use Rattle.std.proofs.Common.{◌++◌, ap, ◌∙◌}
use Rattle.std.specs.Option.{option_map}
use Rattle.std.proofs.lemmas.Result.{on_ok_weaker}
use Rattle.serde_json.specs.Data.{string}
use Rattle.clr_office_writing.specs.Tokens.{tokens_of}
use Rattle.clr_office_writing.specs.RuleData.{named_side, side_data, tip_word}
use Rattle.clr_office_writing.proofs.KnownWritten.{end_node_written}
use Rattle.clr_office_writing.proofs.ListsWritten.{after}
use Rattle.clr_office_writing.proofs.rules.write_end_node.Goals as goal

pub returns : goal.returns
returns c =
    on_ok_weaker c.end_object.result (λ e. (
    after c.args.text.now c.begin_object.new.self _ _ _ c.in_ok-begin_object.ensures.ok (
    after c.begin_object.new.self c.key.new.self _ _ _ c.in_ok-key.ensures.ok (
    after c.key.new.self c.string.new.self _ _ _ c.in_ok-string.ensures.ok (
    after c.string.new.self c.write_known.new.text _ _ _ c.in_ok-write_known.ensures (
    after c.write_known.new.text c.key-2.new.self _ _ _ c.in_ok-key-2.ensures.ok (
    after c.key-2.new.self c.write_side.new.text _ _ _ c.in_ok-write_side.ensures (
    after c.write_side.new.text c.key-3.new.self _ _ _ c.in_ok-key-3.ensures.ok (
    after c.key-3.new.self c.write_side-2.new.text _ _ _ c.in_ok-write_side-2.ensures (
    after c.write_side-2.new.text c.key-4.new.self _ _ _ c.in_ok-key-4.ensures.ok (
    after c.key-4.new.self c.string-2.new.self _ _ _ (c.in_ok-string-2.ensures.ok ∙ ap (λ x. c.key-4.new.self ++ tokens_of (string x)) c.tip_text.ensures)
    e))))))))))
    ∙ ap (λ ts. c.args.text.now ++ ts) (end_node_written (option_map (λ v. v.now) c.args.known) (side_data (named_side c.args.schema.now c.args.server.now)) (side_data (named_side c.args.schema.now c.args.subject.now)) (string (tip_word c.args.tip)))) c.end_object.ensures.ok
