use Rattle.std.proofs.Common.{◌≡◌, ◌++◌, take}
use Rattle.clr_svg.specs.Pages.{elements_text}
use Rattle.clr_svg.proofs.pages.add_elements.Given as goal

-- the elements so far are added
abbrev pub invariant-loop-element : goal.invariant-loop-element
invariant-loop-element l = l.text.items ≡ l.initial.text.items ++ elements_text (take l.element-index l.elements)
