use Rattle.std.proofs.Common.{rules, subst}
use Rattle.clr_viewports.specs.declared.areas.Area.{Area}
use Rattle.clr_map_frames.specs.Insets.{DrawsWithin, IsBeside, plan}
use Rattle.clr_map_frames.proofs.insets.add_inset.Goals as goal

pub returns : goal.returns
returns c =
    let area = c.in-Some.area in
    let beside : IsBeside c.args.scene.now area = search rules in
    record {
      drawn = plan area beside (subst (λ (frame : Area). DrawsWithin frame c.args.sketch.now.elements.items c.add_plan.new.sketch.elements.items)
          c.view_in.ensures c.in_ok-add_plan.ensures);
    }
