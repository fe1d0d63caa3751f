use Rattle.std.proofs.Common.{codes, string_bytes}
use Rattle.clr_merge_sets.specs.MemberChanges.{set_of}
use Rattle.clr_member_changes.specs.Names.{member_name}
use Rattle.clr_plan_answers.proofs.PieceLemmas.{five_behind}
use Rattle.clr_plan_sentences.proofs.told_rows.add_standing.Goals as goal

pub returns-in_ok-push_str-in-TakenOver-5 : goal.returns-in_ok-push_str-in-TakenOver-5
returns-in_ok-push_str-in-TakenOver-5 c =
    rw (
      c.in-TakenOver.is,
      c.in_ok-push_str-in-TakenOver-5.ensures.bytes,
      c.in_ok-push_str-in-TakenOver-4.ensures.bytes,
      c.in_ok-push_str-in-TakenOver-3.ensures.bytes,
      c.in_ok-push_str-in-TakenOver-2.ensures.bytes,
      c.in_ok-push_str-in-TakenOver.ensures.bytes,
      c.name-in-TakenOver.ensures,
    )
    (five_behind (string_bytes c.args.text.now) (codes "in ") (set_of c.args.members.now).root (codes " when ")
    (member_name (set_of c.args.members.now).members c.in-TakenOver.at) (codes " took it over"))
