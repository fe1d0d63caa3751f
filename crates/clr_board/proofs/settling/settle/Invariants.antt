use Rattle.std.proofs.Common.{◌-◌, length}
use Rattle.clr_merge_sets.specs.MemberChanges.{set_of}
use Rattle.clr_board.proofs.Settled.{Leads}
use Rattle.clr_board.proofs.settling.settle.Given as goal

-- what is found of those that are left, in the rounds that are left, is found of all
abbrev pub invariant-loop : goal.invariant-loop
invariant-loop l =
    let all = l.fn.goers.items in
    Leads l.office (set_of l.members) l.helped (length all - l.counter) l.left.items (length all) all
