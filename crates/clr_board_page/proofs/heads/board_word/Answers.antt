use Rattle.std.proofs.Common.{◌∙◌, ◌++◌, Bool, ap, codes, cond, length, sym}
use Rattle.std.specs.Prelude.{decimal}
use Rattle.clr_board_page.specs.declared.heads.StateKind.TheVariants.{CanGo}
use Rattle.clr_board_page.specs.Heads.{count_of}
use Rattle.clr_board_page.proofs.Texts.{four_texts}
use Rattle.clr_board_page.proofs.heads.board_word.Goals as goal

pub returns : goal.returns
returns c =
    let states = c.args.states.now in
    let all = decimal (length states) in
    let word = decimal (count_of CanGo states) ++ codes " of " ++ all ++ codes " designs can go now" in
    c.in_ok-format.ensures.ok
    ∙ ap (λ count. decimal count ++ (codes " of " ++ (all ++ codes " designs can go now"))) c.count_of-count.ensures
    ∙ four_texts (decimal (count_of CanGo states)) (codes " of ") all (codes " designs can go now")
    ∙ ap (λ (none : Bool). cond none (codes "No designs") word) (sym (sym c.is_empty.ensures ∙ c.if-is_empty.false))
