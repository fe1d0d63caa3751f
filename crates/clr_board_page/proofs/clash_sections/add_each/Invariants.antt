use Rattle.std.proofs.Common.{◌≡◌, ◌++◌, map}
use Rattle.std.specs.List.{flat_map, range_with_len}
use Rattle.clr_page_parts.specs.Shown.{shown}
use Rattle.clr_board_page.specs.Clashes.{clash_at}
use Rattle.clr_board_page.specs.Said.{said_in}
use Rattle.clr_board_page.proofs.clash_sections.add_each.Given as goal

-- the clashes so far
abbrev pub invariant-loop-at : goal.invariant-loop-at
invariant-loop-at l =
    let said = said_in l.told in
    map shown l.section.blocks.items ≡ map shown l.initial.section.blocks.items
    ++ flat_map (clash_at said.names said.helped l.causes) (range_with_len 0 l.at)
