use Rattle.std.proofs.Common.{codes, string_bytes}
use Rattle.clr_clearance.specs.Plans.{members_at}
use Rattle.clr_merge_sets.specs.MemberChanges.{set_of}
use Rattle.clr_phrases.specs.Lists.{names_text}
use Rattle.clr_plan_answers.proofs.PieceLemmas.{three_behind}
use Rattle.clr_order_sentences.proofs.sentences.add_together.Goals as goal

pub returns : goal.returns
returns c =
    rw (c.in_ok-push_str-2.ensures.bytes, c.in_ok-add_members_at.ensures, c.in_ok-push_str.ensures.bytes)
    (three_behind (string_bytes c.args.text.now) (codes "No order of these designs works: each that merges ") (names_text (members_at (set_of c.args.members.now) c.args.blockers.now))
    (codes " is refused. Change one of them, leave one out, or name a design that helps.\n"))
