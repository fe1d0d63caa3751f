use Rattle.std.proofs.Common.{append_assoc, length, string_bytes}
use Rattle.clr_clearance.specs.Plans.{members_at}
use Rattle.clr_merge_sets.specs.MemberChanges.{set_of}
use Rattle.clr_phrases.specs.Lists.{names_text}
use Rattle.clr_order_sentences.specs.OrderSentences.{refused_end}
use Rattle.clr_order_sentences.proofs.sentences.add_alone.Goals as goal

pub returns : goal.returns
returns c =
    rw (c.in_ok-push_str.ensures.bytes, c.refused_end.ensures, c.in_ok-add_members_at.ensures)
    (append_assoc (string_bytes c.args.text.now) (names_text (members_at (set_of c.args.members.now) c.args.blockers.now))
    (refused_end (length (set_of c.args.members.now).members)))
