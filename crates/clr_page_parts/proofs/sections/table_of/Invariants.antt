use Rattle.std.proofs.Common.{◌≡◌, map, take}
use Rattle.clr_html.specs.Words.{words_of_text}
use Rattle.clr_page_parts.proofs.sections.table_of.Given as goal

-- the heads so far
abbrev pub invariant-loop-head : goal.invariant-loop-head
invariant-loop-head l = map words_of_text l.texts.items ≡ map (λ head. head.now) (take l.head-index l.heads)
