-- How elements are filled and drawn.
use Rattle.std.specs.Prelude.{ℕ, List, [], ◌++◌, codes, Option, Some, None, option_map}
use Rattle.clr_svg.specs.declared.colours.Colour.{Colour}
use Rattle.clr_svg.specs.declared.inks.Dash.{Dash}
use Rattle.clr_svg.specs.declared.inks.Ink.{Ink}
use Rattle.clr_svg.specs.declared.inks.Stroke.{Stroke}
use Rattle.clr_svg.specs.declared.pixels.Pixels.{Pixels}
use Rattle.clr_svg.specs.Numbers.{attribute, colour_text, pair_text, pixels_text}

abbrev pub fill_text : Option Colour → List ℕ
fill_text None = attribute (codes "fill") (codes "none")
fill_text (Some c) = attribute (codes "fill") (colour_text c)

abbrev pub dash_text : Option Dash → List ℕ
dash_text None = []
dash_text (Some d) = attribute (codes "stroke-linecap") (codes "butt") ++ attribute (codes "stroke-dasharray") (pair_text d.dash d.gap)

unfoldable pub drawn_text : Stroke → List ℕ
drawn_text s = attribute (codes "stroke") (colour_text s.colour) ++ attribute (codes "stroke-width") (pixels_text s.width) ++ dash_text s.dash

abbrev pub stroke_text : Option Stroke → List ℕ
stroke_text None = []
stroke_text (Some s) = drawn_text s

unfoldable pub ink_text : Ink → List ℕ
ink_text ink = fill_text ink.fill ++ stroke_text ink.stroke

-- a line with dashes of one length and gaps of another
abbrev pub dashed_stroke : Stroke → Pixels → Pixels → Stroke
dashed_stroke s dash gap = record { colour = s.colour; width = s.width; dash = Some (record { dash = dash; gap = gap }) }

-- an ink that draws no line stays so
abbrev pub dashed_ink : Ink → Pixels → Pixels → Ink
dashed_ink ink dash gap = record { fill = ink.fill; stroke = option_map (λ s. dashed_stroke s dash gap) ink.stroke }

abbrev pub filled_ink : Colour → Ink
filled_ink colour = record { fill = Some colour; stroke = None }

-- a full line
abbrev pub drawn_ink : Colour → Pixels → Ink
drawn_ink colour width = record { fill = None; stroke = Some (record { colour = colour; width = width; dash = None }) }

abbrev pub ink_over : Ink → Colour → Ink
ink_over ink colour = record { fill = Some colour; stroke = ink.stroke }
