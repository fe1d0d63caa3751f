use Rattle.std.proofs.Common.{◌∙◌, ◌++◌, ◌∷◌, [], codes, map}
use Rattle.std.proofs.lemmas.Result.{on_ok_weaker}
use Rattle.clr_page_parts.specs.Shown.{Paragraph, Picture, shown}
use Rattle.clr_board_page.proofs.Sections.{behind}
use Rattle.clr_board_page.proofs.order_sections.add_some.Goals as goal

pub returns : goal.returns
returns c =
    let old = map shown c.args.section.now.blocks.items in
    let words = Paragraph (codes "The designs that can go, now or after others, can be merged in each order in which:") in
    on_ok_weaker c.add.result
    (λ is. behind old (map shown c.add_paragraph.new.self.blocks.items) (map shown c.add.new.self.blocks.items) words (Picture c.in_ok-turns.turns.items ∷ [])
    c.in_ok-add_paragraph.ensures is ∙ (λ i. old ++ (words ∷ Picture (c.in_ok-turns.ensures i) ∷ []))) c.add.ensures
