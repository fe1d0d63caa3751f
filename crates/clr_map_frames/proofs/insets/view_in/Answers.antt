use Rattle.std.proofs.Common.{ap}
use Rattle.clr_viewports.specs.declared.viewports.Viewport.{Viewport}
use Rattle.clr_viewports.specs.Viewports.{view_of}
use Rattle.clr_map_frames.proofs.insets.view_in.Goals as goal

pub returns : goal.returns
unfolding view_of
returns c = ap (λ (v : Viewport). v.frame) c.new.ensures
