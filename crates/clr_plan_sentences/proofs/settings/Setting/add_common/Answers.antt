use Rattle.std.proofs.Common.{codes, string_bytes}
use Rattle.clr_phrases.specs.Rules.{fields_text}
use Rattle.clr_plan_answers.proofs.PieceLemmas.{three_behind}
use Rattle.clr_plan_sentences.proofs.settings.Setting.add_common.Goals as goal

pub returns : goal.returns
returns c =
    rw (
      c.in-Some.is,
      c.in_ok-push_str-3.ensures.bytes,
      c.in_ok-push_str-2.ensures.bytes,
      c.in_ok-push_str.ensures.bytes,
      c.as_str.ensures.value,
      c.in_ok-fields.ensures,
      c.schema.ensures.value,
    )
    (three_behind (string_bytes c.args.text.now) (codes "  Both have ")
    (fields_text c.args.self.now.office.now.schema c.args.subject.now (c.args.need.now.first.cell, c.in-Some.row.now) c.args.columns.now) (codes ".\n"))
