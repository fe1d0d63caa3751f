use Rattle.std.proofs.Common.{map, take}
use Rattle.std.specs.List.{enumerate_from}
use Rattle.clr_page_parts.specs.Shown.{section_shown}
use Rattle.clr_board_page.specs.Designs.{AreDesignSections}
use Rattle.clr_board_page.specs.Said.{said_in}
use Rattle.clr_board_page.proofs.design_sections.design_sections.Given as goal

-- the sections of the designs so far
abbrev pub invariant-loop-at : goal.invariant-loop-at
invariant-loop-at l =
    AreDesignSections l.office (said_in l.told) (enumerate_from 0 (map (λ name. name.now) (take l.at l.names))) (map section_shown l.sections.items)
