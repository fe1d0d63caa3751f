use Rattle.std.proofs.Common.{◌∙◌, ◌++◌, ◌∷◌, [], map}
use Rattle.std.proofs.lemmas.Result.{on_ok_weaker}
use Rattle.clr_page_parts.specs.Causes.{cause_shown}
use Rattle.clr_page_parts.specs.Shown.{Picture, shown}
use Rattle.clr_board_page.specs.Clashes.{helps_words}
use Rattle.clr_board_page.specs.Links.{paragraph_text}
use Rattle.clr_board_page.specs.Said.{said_in}
use Rattle.clr_board_page.proofs.Sections.{between}
use Rattle.clr_board_page.proofs.clash_sections.add_shown.Goals as goal

pub returns : goal.returns
returns c =
    let said = said_in c.args.told in
    let clash = c.args.clash.now in
    let old = map shown c.args.section.now.blocks.items in
    let helps = c.in_ok-helps.ensures ∙ (λ i. paragraph_text (helps_words said.names (c.as_slice.ensures.value i))) in
    on_ok_weaker c.add-2.result
    (λ is. between old (map shown c.add.new.self.blocks.items) (map shown c.add_cause.new.section.blocks.items) (map shown c.add-2.new.self.blocks.items)
    (Picture c.in_ok-head.head.items) (Picture c.in_ok-helps.helps.items) (cause_shown c.args.cause.now) c.in_ok-add.ensures c.in_ok-add_cause.ensures is
    ∙ (λ i. old ++ (Picture (c.in_ok-head.ensures i) ∷ (cause_shown c.args.cause.now ++ Picture (helps i) ∷ [])))) c.add-2.ensures
