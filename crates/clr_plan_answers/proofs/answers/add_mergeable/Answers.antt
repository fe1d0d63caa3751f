use Rattle.std.proofs.Common.{codes, length, string_bytes}
use Rattle.clr_merge_sets.specs.MemberChanges.{set_of}
use Rattle.clr_phrases.specs.Lists.{names_text}
use Rattle.clr_plan_answers.specs.Answers.{all_or_some_text}
use Rattle.clr_plan_answers.proofs.PieceLemmas.{four_behind}
use Rattle.clr_plan_answers.proofs.answers.add_mergeable.Goals as goal

pub returns : goal.returns
returns c =
    rw (c.in_ok-push_str-3.ensures.bytes, c.all_or_some_words.ensures, c.in_ok-push_str-2.ensures.bytes, c.in_ok-push_str.ensures.bytes, c.in_ok-add_names.ensures)
    (four_behind (string_bytes c.args.text.now) (names_text (set_of c.args.members.now).members) (codes " can be merged into ") (set_of c.args.members.now).root
    (all_or_some_text (length (set_of c.args.members.now).members)))
