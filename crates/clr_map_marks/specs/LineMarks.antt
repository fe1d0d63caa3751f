-- How the lines of designs are drawn, one design after another.
use Rattle.std.specs.Prelude.{◌≡◌, ℕ, pos, List, [], ◌∷◌, reverse, Option, Some, None, slice_get, if◌then◌else◌}
use Rattle.clr_rows.specs.Contents.{Changes}
use Rattle.clr_svg.specs.declared.colours.Colour.{Colour}
use Rattle.clr_svg.specs.declared.elements.Element.{Element}
use Rattle.clr_svg.specs.declared.elements.PagePoint.{PagePoint}
use Rattle.clr_svg.specs.declared.inks.Dash.{Dash}
use Rattle.clr_svg.specs.declared.pixels.Pixels.{Pixels}
use Rattle.clr_svg.specs.Lengths.{length_of, whole}
use Rattle.clr_viewports.specs.declared.details.Detail.{Detail}
use Rattle.clr_viewports.specs.Details.{is_fine}
use Rattle.clr_drawing.specs.Palette.{colours_of}
use Rattle.clr_drawing.specs.Signs.{DrawsCross}
use Rattle.clr_map_scenes.specs.declared.scenes.MapScene.{MapScene}
use Rattle.clr_map_scenes.specs.Designs.{rank_of, sets_of}
use Rattle.clr_map_marks.specs.Lines.{DrawsKinds, Kinds, lines_drawn}
use Rattle.clr_map_marks.specs.Points.{paper}

-- each of some things is drawn, over those before it
abbrev pub DrawsEach : {A : Type 0} → (A → List Element → List Element → Type 0) → List A → List Element → List Element → Type 0
DrawsEach Draws [] old new = new ≡ old
DrawsEach Draws (x ∷ xs) old new = (drawn : List Element) × Draws x old drawn × DrawsEach Draws xs drawn new

-- how broad lines of designs are, by how much detail there is room for in all and of changes
abbrev pub mark_width : Detail → Detail → Pixels
mark_width detail changes = if is_fine changes then (if is_fine detail then length_of (pos 46) else length_of (pos 32)) else length_of (pos 20)

abbrev pub dash_of : Detail → Dash
dash_of changes = if is_fine changes then record { dash = whole (pos 7); gap = whole (pos 6) } else record { dash = whole (pos 4); gap = whole (pos 3) }

abbrev pub DrawsCrossAt : Colour → PagePoint → List Element → List Element → Type 0
DrawsCrossAt colour spot old new = DrawsCross spot (whole (pos 5)) colour paper old new

-- the lines of a design, with crosses over those that go if there is room
abbrev pub DrawsLines : Detail → Detail → Kinds → Colour → List Element → List Element → Type 0
DrawsLines detail changes k colour old new = (drawn : List Element) × DrawsKinds k (mark_width detail changes) (dash_of changes) colour old drawn
    × DrawsEach (DrawsCrossAt colour) (if is_fine changes then k.crosses else []) drawn new

abbrev pub DrawsSet : MapScene → Colour → Option Changes → List Element → List Element → Type 0
DrawsSet scene colour None old new = new ≡ old
DrawsSet scene colour (Some set) old new = DrawsLines scene.detail scene.changes (lines_drawn scene.view set) colour old new

-- the design at a position, in its colour
abbrev pub DrawsDesign : MapScene → ℕ → List Element → List Element → Type 0
DrawsDesign scene at old new =
    DrawsSet scene (colours_of (rank_of scene.field.designs.now.order.items at)).line (slice_get (sets_of scene.field.designs.now) at) old new

-- the designs, the last one first
abbrev pub DrawsLineMarks : MapScene → List Element → List Element → Type 0
DrawsLineMarks scene old new = DrawsEach (DrawsDesign scene) (reverse scene.field.designs.now.order.items) old new
