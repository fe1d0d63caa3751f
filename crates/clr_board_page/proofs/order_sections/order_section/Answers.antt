use Rattle.std.proofs.Common.{◌∙◌, ap, codes, map}
use Rattle.clr_page_parts.specs.Shown.{Heading, shown}
use Rattle.clr_board_page.specs.Orders.{order_shown}
use Rattle.clr_board_page.specs.Said.{said_in}
use Rattle.clr_board_page.proofs.Sections.{headed}
use Rattle.clr_board_page.proofs.order_sections.order_section.Goals as goal

pub returns : goal.returns
returns c =
    let said = said_in c.args.told in
    c.into_section.ensures
    ∙ headed (map shown c.new-section.result.blocks.items) (map shown c.add_heading.new.self.blocks.items) (map shown c.add_order.new.section.blocks.items)
    (Heading (codes "Who goes first")) (order_shown said.names c.args.goers.now c.args.order.now said.turns) (ap (map shown) c.new-section.ensures)
    c.in_ok-add_heading.ensures c.in_ok-add_order.ensures
