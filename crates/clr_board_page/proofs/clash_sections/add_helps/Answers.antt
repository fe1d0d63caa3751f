use Rattle.std.proofs.Common.{◌∙◌, map, sym}
use Rattle.std.proofs.lemmas.Result.{on_ok_weaker}
use Rattle.clr_board_page.proofs.Texts.{some_help}
use Rattle.clr_board_page.proofs.clash_sections.add_helps.Goals as goal

pub returns : goal.returns
returns c =
    on_ok_weaker c.add_designs.result
    (λ is. some_help (map (λ name. name.now) c.args.names.now) c.args.helpers.now c.args.page.now.items _ _ (sym c.is_empty.ensures ∙ c.if-is_empty.false)
    c.in_ok-extend_from_slice.ensures.items is) c.add_designs.ensures
