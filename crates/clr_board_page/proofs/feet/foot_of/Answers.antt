use Rattle.std.proofs.Common.{◌∙◌, ◌∷◌, [], ap, codes, map}
use Rattle.clr_page_parts.specs.Shown.{Heading, Lines, Paragraph, shown}
use Rattle.clr_board_page.proofs.Sections.{three_blocks}
use Rattle.clr_board_page.proofs.feet.foot_of.Goals as goal

pub returns : goal.returns
returns c =
    let words = Paragraph (codes "These commands print the clashes, and who goes before whom; DB is the file of the office.") in
    c.into_section.ensures
    ∙ three_blocks (map shown c.new-section.result.blocks.items) (map shown c.add_heading.new.self.blocks.items)
    (map shown c.add_paragraph.new.self.blocks.items) (map shown c.add.new.self.blocks.items) (Heading (codes "To look again")) words
    (Lines c.in_ok-lines.lines.items) (ap (map shown) c.new-section.ensures)
    c.in_ok-add_heading.ensures c.in_ok-add_paragraph.ensures c.in_ok-add.ensures
    ∙ (λ i. Heading (codes "To look again") ∷ words ∷ Lines (c.in_ok-lines.ensures i) ∷ [])
