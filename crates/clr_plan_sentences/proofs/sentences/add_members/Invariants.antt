use Rattle.std.proofs.Common.{◌≡◌, ◌++◌, drop, string_bytes}
use Rattle.std.specs.List.{enumerate_from, flat_map}
use Rattle.clr_merge_sets.specs.MemberChanges.{set_of}
use Rattle.clr_plan_sentences.specs.Sentences.{member_line, members_text}
use Rattle.clr_plan_sentences.proofs.sentences.add_members.Given as goal

-- the lines so far, with those of the members that are left, are those of all
abbrev pub invariant-loop-at : goal.invariant-loop-at
invariant-loop-at l =
    string_bytes l.text ++ flat_map (member_line (set_of l.members).members) (enumerate_from l.at (drop l.at l.sets))
    ≡ string_bytes l.initial.text ++ members_text (set_of l.members).members l.sets
