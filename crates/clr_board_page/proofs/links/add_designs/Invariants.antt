use Rattle.std.proofs.Common.{◌≡◌, ◌++◌, drop, map}
use Rattle.std.specs.List.{enumerate_from, flat_map}
use Rattle.clr_board_page.specs.Links.{designs_text, listed_design}
use Rattle.clr_board_page.proofs.links.add_designs.Given as goal

-- the designs so far, with those that are left, are all of them
abbrev pub invariant-loop-index : goal.invariant-loop-index
invariant-loop-index l =
    let names = map (λ name. name.now) l.names in
    l.page.items ++ flat_map (listed_design names) (enumerate_from l.index (drop l.index l.positions))
    ≡ l.initial.page.items ++ designs_text names l.positions
