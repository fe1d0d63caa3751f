use Rattle.clr_map_frames.proofs.InsetLemmas.{area_more}
use Rattle.clr_map_frames.proofs.insets.add_part.Goals as goal

pub returns : goal.returns
returns c =
    area_more c.args.view.now.frame _ _ c.part_within.result c.args.radius c.args.ink c.part_within.ensures c.in_ok-add_area.ensures
