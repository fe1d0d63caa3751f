use Rattle.std.proofs.Common.{codes, string_bytes}
use Rattle.clr_plan_sentences.specs.NeedCauses.{rows_word}
use Rattle.clr_plan_answers.proofs.PieceLemmas.{three_behind}
use Rattle.clr_plan_sentences.proofs.server_words.add_front.Goals as goal

pub returns-in_ok-push_str-3 : goal.returns-in_ok-push_str-3
returns-in_ok-push_str-3 c =
    rw (c.if-leaves.true, c.in_ok-push_str-3.ensures.bytes, c.in_ok-push_str-2.ensures.bytes, c.in_ok-push_str.ensures.bytes, c.rows_word.ensures)
    (three_behind (string_bytes c.args.text.now) (codes "  What serves ") (rows_word c.args.second) (codes " now goes: "))

pub returns-in_ok-push_str-6 : goal.returns-in_ok-push_str-6
returns-in_ok-push_str-6 c =
    rw (
      c.if-leaves.false,
      c.in_ok-push_str-6.ensures.bytes,
      c.in_ok-push_str-5.ensures.bytes,
      c.in_ok-push_str-4.ensures.bytes,
      c.rows_word-else-leaves.ensures,
    )
    (three_behind (string_bytes c.args.text.now) (codes "  What would serve ") (rows_word c.args.second) (codes " comes, perhaps later: "))
