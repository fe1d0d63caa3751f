use Rattle.std.proofs.Common.{codes, string_bytes}
use Rattle.clr_merge_sets.specs.MemberChanges.{set_of}
use Rattle.clr_plan_answers.specs.Answers.{order_text}
use Rattle.clr_plan_answers.proofs.PieceLemmas.{three_behind}
use Rattle.clr_plan_map.proofs.sentences.add_alone.Goals as goal

pub returns : goal.returns
returns c =
    rw (c.in_ok-push_str-2.ensures.bytes, c.in_ok-add_order_text.ensures, c.in_ok-push_str.ensures.bytes)
    (three_behind (string_bytes c.args.text.now) (codes "Already ") (order_text (set_of c.args.members.now).members c.args.order.now)
    (codes " alone, merged now, is refused. "))
