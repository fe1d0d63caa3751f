use Rattle.std.proofs.Common.{◌≡◌, ◌++◌, take}
use Rattle.clr_html.specs.Pages.{sections_text}
use Rattle.clr_html.proofs.pages.add_sections.Given as goal

-- the sections so far are added
abbrev pub invariant-loop-section : goal.invariant-loop-section
invariant-loop-section l = l.page.items ≡ l.initial.page.items ++ sections_text (take l.section-index l.sections)
