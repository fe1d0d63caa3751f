-- What is drawn without words says nothing.
use Rattle.std.proofs.Common.{◌≡◌, ◌∙◌, List, [], ◌∷◌, ap, append-nil}
use Rattle.std.proofs.lemmas.Grind.{flat_map-append}
use Rattle.clr_svg.specs.declared.elements.Element.{Element}
use Rattle.clr_svg.specs.declared.elements.Element.TheVariants.{Path, Circle, Rectangle, Words}
use Rattle.clr_svg.specs.declared.elements.PathCommand.{PathCommand}
use Rattle.clr_svg.specs.declared.inks.Ink.{Ink}
use Rattle.clr_drawing.specs.Sketches.{Draws, DrawsPath, IsPath}
use Rattle.clr_map_frames.specs.HeadingLines.{said, words_of}

-- a path
pub of_path : (steps : List PathCommand) (ink : Ink) (old new : List Element) → Draws (IsPath steps ink) old new → said new ≡ said old
of_path steps ink old new (Path taken i, is, whole) = ap said whole ∙ flat_map-append words_of old (Path taken i ∷ []) ∙ append-nil (said old)
of_path steps ink old new (Circle m r i, is, whole) = absurd is
of_path steps ink old new (Rectangle c w h r i, is, whole) = absurd is
of_path steps ink old new (Words l, is, whole) = absurd is

-- a path, unless it has no steps
pub of_steps : (steps : List PathCommand) (ink : Ink) (old new : List Element) → DrawsPath steps ink old new → said new ≡ said old
of_steps [] ink old new same = ap said same
of_steps (s ∷ steps) ink old new drawn = of_path (s ∷ steps) ink old new drawn
