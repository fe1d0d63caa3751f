use Rattle.std.proofs.Common.{◌≡◌, ◌==◌, filter, not, take}
use Rattle.clr_board_page.proofs.states.others_in.Given as goal

-- the other designs so far
abbrev pub invariant-loop-other : goal.invariant-loop-other
invariant-loop-other l = l.others.items ≡ filter (λ x. not (x == l.at)) (take l.other-index l.clash.clash.now.members.items)
