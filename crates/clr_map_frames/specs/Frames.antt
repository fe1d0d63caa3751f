-- The frames round what designs change.
use Rattle.std.specs.Prelude.{Bool, ◌&&◌, ◌||◌, not, is_none, nat_lt, length}
use Rattle.clr_viewports.specs.Details.{is_fine}
use Rattle.clr_map_scenes.specs.declared.scenes.MapScene.{MapScene}

-- without a cause, where there is little room or there are more than three designs
abbrev pub has_frames : MapScene → Bool
has_frames scene = is_none scene.cause && (not (is_fine scene.changes) || nat_lt 3 (length scene.field.designs.now.members.now.names.now))
