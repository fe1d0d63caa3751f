use Rattle.std.proofs.Common.{codes, length, string_bytes}
use Rattle.clr_merge_sets.specs.MemberChanges.{set_of}
use Rattle.clr_phrases.specs.Lists.{names_text}
use Rattle.clr_plan_answers.specs.Answers.{every_order_text, order_sentence}
use Rattle.clr_plan_answers.proofs.PieceLemmas.{five_behind}
use Rattle.clr_plan_answers.proofs.answers.add_blocked.Goals as goal

pub returns : goal.returns
returns c =
    rw (
      c.in_ok-add_order.ensures,
      c.in_ok-push_str-3.ensures.bytes,
      c.every_order_words.ensures,
      c.in_ok-push_str-2.ensures.bytes,
      c.in_ok-push_str.ensures.bytes,
      c.in_ok-add_names.ensures,
    )
    (five_behind (string_bytes c.args.text.now)
    (names_text (set_of c.args.members.now).members) (codes " can't be merged into ") (set_of c.args.members.now).root
    (every_order_text (length (set_of c.args.members.now).members)) (order_sentence (set_of c.args.members.now).members c.args.order.now))
