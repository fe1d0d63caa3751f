use Rattle.std.proofs.Common.{◌≡◌, ◌++◌, ◌+◌, drop}
use Rattle.std.specs.List.{enumerate_from, flat_map}
use Rattle.clr_board_page.specs.Said.{said_in}
use Rattle.clr_board_page.specs.States.{clash_of_design, clashes_of_design}
use Rattle.clr_board_page.proofs.states.add_clashes.Given as goal

-- the clashes so far, with those that are left, are all of them
abbrev pub invariant-loop-index : goal.invariant-loop-index
invariant-loop-index l =
    let said = said_in l.told in
    l.page.items ++ flat_map (clash_of_design said.names l.at) (enumerate_from (l.index + 1) (drop l.index said.helped))
    ≡ l.initial.page.items ++ clashes_of_design said.names said.helped l.at
