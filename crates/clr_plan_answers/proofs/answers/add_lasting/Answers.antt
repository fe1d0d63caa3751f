use Rattle.std.proofs.Common.{codes, length, string_bytes}
use Rattle.clr_merge_sets.specs.MemberChanges.{set_of}
use Rattle.clr_plan_answers.specs.Answers.{untouched_text}
use Rattle.clr_plan_answers.proofs.PieceLemmas.{three_behind}
use Rattle.clr_plan_answers.proofs.answers.add_lasting.Goals as goal

pub returns : goal.returns
returns c =
    rw (c.in_ok-push_str-3.ensures.bytes, c.untouched_words.ensures, c.in_ok-push_str-2.ensures.bytes, c.in_ok-push_str.ensures.bytes)
    (three_behind (string_bytes c.args.text.now) (codes "This lasts while nobody edits ") (set_of c.args.members.now).root
    (untouched_text (length (set_of c.args.members.now).members)))
