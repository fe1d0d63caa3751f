use Rattle.clr_scene_orders.proofs.Answers.{final_breaks}
use Rattle.clr_scene_orders.proofs.laws.final_needs_break.Goals as goal

pub returns : goal.returns
returns c = final_breaks
