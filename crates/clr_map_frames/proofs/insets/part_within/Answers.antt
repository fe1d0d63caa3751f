use Rattle.std.proofs.Common.{◌∙◌}
use Rattle.clr_viewports.specs.Areas.{holds}
use Rattle.clr_map_frames.proofs.InsetLemmas.{part_holds}
use Rattle.clr_map_frames.proofs.insets.part_within.Goals as goal

pub returns : goal.returns
returns c =
    (λ i. holds c.args.boundary (record {
      left = c.greater_length.ensures i;
      top = c.greater_length-2.ensures i;
      right = c.lesser_length.ensures i;
      bottom = c.lesser_length-2.ensures i;
    }))
    ∙ part_holds c.args.boundary c.args.area
