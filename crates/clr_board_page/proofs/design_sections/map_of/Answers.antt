use Rattle.std.proofs.Common.{List, option_map, subst}
use Rattle.std.proofs.lemmas.Result.{IfOk-weaker}
use Rattle.clr_rows.specs.Contents.{Changes}
use Rattle.clr_small_maps.specs.SmallMaps.{IsSmallMap}
use Rattle.clr_board_page.proofs.design_sections.map_of.Goals as goal

-- one design has one change set
pub returns : goal.returns
returns c =
    IfOk-weaker c.small_map.result _ _ (λ map is.
    subst (λ (sets : List Changes). IsSmallMap c.args.name.now c.args.words.now sets (option_map (λ text. text.items) map))
    c.in_ok-one.ensures.members.changes is)
    c.small_map.ensures.map
