use Rattle.std.proofs.Common.{codes, string_bytes}
use Rattle.clr_merge_sets.specs.MemberChanges.{set_of}
use Rattle.clr_member_changes.specs.Names.{member_name}
use Rattle.clr_plan_answers.proofs.PieceLemmas.{four_behind, three_behind}
use Rattle.clr_plan_answers.proofs.unfit.add_name_fault.Goals as goal

pub returns-in_ok-push_str-in-NoWorkspace-3 : goal.returns-in_ok-push_str-in-NoWorkspace-3
returns-in_ok-push_str-in-NoWorkspace-3 c =
    rw (
      c.in-NoWorkspace.is,
      c.in_ok-push_str-in-NoWorkspace-3.ensures.bytes,
      c.in_ok-push_str-in-NoWorkspace-2.ensures.bytes,
      c.in_ok-push_str-in-NoWorkspace.ensures.bytes,
      c.name-in-NoWorkspace.ensures,
    )
    (three_behind (string_bytes c.args.text.now) (codes "No workspace is named ")
    (member_name (set_of c.args.members.now).members c.in-NoWorkspace.at) (codes ".\n"))

pub returns-in_ok-push_str-in-NotUnderRoot-4 : goal.returns-in_ok-push_str-in-NotUnderRoot-4
returns-in_ok-push_str-in-NotUnderRoot-4 c =
    rw (
      c.in-NotUnderRoot.is,
      c.in_ok-push_str-in-NotUnderRoot-4.ensures.bytes,
      c.in_ok-push_str-in-NotUnderRoot-3.ensures.bytes,
      c.in_ok-push_str-in-NotUnderRoot-2.ensures.bytes,
      c.in_ok-push_str-in-NotUnderRoot.ensures.bytes,
      c.name-in-NotUnderRoot.ensures,
    )
    (four_behind (string_bytes c.args.text.now) (member_name (set_of c.args.members.now).members c.in-NotUnderRoot.at)
    (codes " wasn't made from ") (set_of c.args.members.now).root (codes ".\n"))
