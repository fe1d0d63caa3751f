use Rattle.std.proofs.Common.{◌∙◌}
use Rattle.clr_plan_map.proofs.SilentPaths.{of_path, of_steps}
use Rattle.clr_plan_map.proofs.turns.add_arrow.Goals as goal

pub returns : goal.returns
returns c =
    of_steps _ _ _ _ c.in_ok-add_path.ensures ∙ of_path _ _ _ _ c.in_ok-add_line.ensures
