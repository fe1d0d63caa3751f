use Rattle.std.proofs.Common.{◌≡◌, ◌++◌, drop}
use Rattle.std.specs.List.{enumerate_from, flat_map}
use Rattle.clr_board_page.specs.Said.{said_in}
use Rattle.clr_board_page.specs.States.{row_of_design, rows_of_designs}
use Rattle.clr_board_page.proofs.states.add_rows.Given as goal

-- the rows so far, with those that are left, are all of them
abbrev pub invariant-loop-at : goal.invariant-loop-at
invariant-loop-at l =
    let said = said_in l.told in
    l.page.items ++ flat_map (row_of_design said) (enumerate_from l.at (drop l.at l.sets)) ≡ l.initial.page.items ++ rows_of_designs said l.sets
