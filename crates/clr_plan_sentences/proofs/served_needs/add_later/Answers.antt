use Rattle.std.proofs.Common.{codes, string_bytes}
use Rattle.clr_merge_sets.specs.MemberChanges.{set_of}
use Rattle.clr_plan_sentences.specs.Changers.{changer_name}
use Rattle.clr_plan_sentences.specs.Labels.{cell_label}
use Rattle.clr_plan_answers.proofs.PieceLemmas.{four_behind}
use Rattle.clr_plan_sentences.proofs.served_needs.add_later.Goals as goal

pub returns-in_ok-add_label-in-Some : goal.returns-in_ok-add_label-in-Some
returns-in_ok-add_label-in-Some c =
    rw (
      c.in-Some.is,
      c.in_ok-add_label-in-Some.ensures,
      c.in_ok-push_str-in-Some-3.ensures.bytes,
      c.in_ok-push_str-in-Some-2.ensures.bytes,
      c.in_ok-push_str-in-Some.ensures.bytes,
      c.changer_name.ensures,
    )
    (four_behind (string_bytes c.args.text.now) (codes " until ")
    (changer_name (set_of c.args.members.now).members c.args.members.now.changes.items c.in-Some.version.cell) (codes " is merged, and then by ")
    (cell_label c.args.schema.now c.in-Some.version.cell))
