use Rattle.std.proofs.Common.{take}
use Rattle.clr_merge_sets.specs.MemberChanges.{set_of}
use Rattle.clr_clash_helpers.specs.Helpers.{AreHelped}
use Rattle.clr_clash_helpers.proofs.helped.helped_clashes.Given as goal

-- the sets so far
abbrev pub invariant-loop-clash : goal.invariant-loop-clash
invariant-loop-clash l = AreHelped l.office (set_of l.members) (take l.clash-index l.clashes) l.list.items
