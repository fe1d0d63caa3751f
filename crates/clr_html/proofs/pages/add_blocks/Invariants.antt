use Rattle.std.proofs.Common.{◌≡◌, ◌++◌, take}
use Rattle.clr_html.specs.Pages.{blocks_text}
use Rattle.clr_html.proofs.pages.add_blocks.Given as goal

-- the blocks so far are added
abbrev pub invariant-loop-block : goal.invariant-loop-block
invariant-loop-block l = l.page.items ≡ l.initial.page.items ++ blocks_text (take l.block-index l.blocks)
