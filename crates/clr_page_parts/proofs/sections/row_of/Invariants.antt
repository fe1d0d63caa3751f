use Rattle.std.proofs.Common.{◌≡◌, map, take}
use Rattle.clr_html.specs.Words.{words_of_text}
use Rattle.clr_page_parts.proofs.sections.row_of.Given as goal

-- the cells so far
abbrev pub invariant-loop-cell : goal.invariant-loop-cell
invariant-loop-cell l = map words_of_text l.texts.items ≡ map (λ cell. cell.now) (take l.cell-index l.cells)
