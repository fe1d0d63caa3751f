use Rattle.std.proofs.Common.{codes, string_bytes}
use Rattle.clr_phrases.specs.Rules.{side_text}
use Rattle.clr_plan_answers.proofs.PieceLemmas.{five_behind}
use Rattle.clr_plan_sentences.proofs.server_words.add_no_server.Goals as goal

pub returns-in-Whole : goal.returns-in-Whole
returns-in-Whole c =
    rw (
      c.in-Whole.is,
      c.in_ok-push_str-in-Whole-5.ensures.bytes,
      c.in_ok-push_str-in-Whole-4.ensures.bytes,
      c.in_ok-push_str-in-Whole-3.ensures.bytes,
      c.in_ok-push_str-in-Whole-2.ensures.bytes,
      c.in_ok-push_str-in-Whole.ensures.bytes,
      c.as_str.ensures.value,
      c.in_ok-side.ensures,
    )
    (five_behind (string_bytes c.args.text.now) (codes "  No ") (side_text c.args.schema.now c.args.server.now)
    (codes " stands there, in ") c.args.root.now (codes " or in one of these designs.\n"))
