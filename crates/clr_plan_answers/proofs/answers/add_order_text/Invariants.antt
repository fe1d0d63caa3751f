use Rattle.std.proofs.Common.{◌≡◌, ◌++◌, string_bytes, take}
use Rattle.std.specs.List.{flat_map}
use Rattle.clr_plan_answers.specs.Answers.{then_text}
use Rattle.clr_merge_sets.specs.MemberChanges.{set_of}
use Rattle.clr_plan_answers.proofs.answers.add_order_text.Given as goal

-- the first member, and the others so far
abbrev pub invariant-loop-other : goal.invariant-loop-other
invariant-loop-other l = string_bytes l.text
    ≡ string_bytes l.initial.text ++ flat_map (then_text (set_of l.members).members) (take l.other-index l.others)
