use Rattle.std.proofs.Common.{◌∙◌, Some, ap, sym}
use Rattle.std.proofs.lemmas.Option.{slice_get-get_or}
use Rattle.clr_scene_orders.proofs.scene_orders.final_at.Goals as goal

pub returns : goal.returns
returns c = (
  c.index.result.now,
  slice_get-get_or c.args.found.now.needs.items c.args.at c.index-need.result.now c.requires.needs ∙ ap Some (sym c.index-need.ensures),
  slice_get-get_or c.args.found.now.sides.items c.args.at c.index.result.now c.requires.sides ∙ ap Some (sym c.index.ensures),
  c.in_ok-members.ensures.items ∙ c.as_slice.ensures.value,
)
