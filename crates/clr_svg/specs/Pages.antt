-- How pages are written.
use Rattle.std.specs.Prelude.{ℕ, List, ◌++◌, codes, Option, Some, None}
use Rattle.std.specs.List.{flat_map}
use Rattle.clr_svg.specs.declared.elements.Element.{Element}
use Rattle.clr_svg.specs.declared.elements.PagePoint.{PagePoint}
use Rattle.clr_svg.specs.declared.pages.Layer.{Layer}
use Rattle.clr_svg.specs.declared.pages.SvgPage.{SvgPage}
use Rattle.clr_svg.specs.declared.pages.Window.{Window}
use Rattle.clr_svg.specs.declared.pixels.Pixels.{Pixels}
use Rattle.clr_svg.specs.Elements.{element_text}
use Rattle.clr_svg.specs.Escapes.{escaped}
use Rattle.clr_svg.specs.Numbers.{attribute, pair_text, pixels_text, spot_text}

abbrev pub elements_text : List Element → List ℕ
elements_text elements = flat_map element_text elements

-- a rectangle by its corner and its size
unfoldable pub box_text : PagePoint → Pixels → Pixels → List ℕ
box_text corner width height = spot_text corner ++ codes " " ++ pair_text width height

-- a size, and the rectangle of this size at a spot as what is shown
unfoldable pub size_text : PagePoint → Pixels → Pixels → List ℕ
size_text corner width height =
    attribute (codes "width") (pixels_text width) ++ attribute (codes "height") (pixels_text height)
    ++ attribute (codes "viewBox") (box_text corner width height)

-- elements that are seen through a window
abbrev pub window_text : Window → List Element → List ℕ
window_text w elements =
    codes "<svg" ++ attribute (codes "x") (pixels_text w.corner.x) ++ attribute (codes "y") (pixels_text w.corner.y)
    ++ size_text w.corner w.width w.height ++ codes ">\n" ++ elements_text elements ++ codes "</svg>\n"

abbrev pub seen_text : Option Window → List Element → List ℕ
seen_text None elements = elements_text elements
seen_text (Some w) elements = window_text w elements

abbrev pub elements_of_layer : Layer → List ℕ
elements_of_layer layer = seen_text layer.window layer.elements.items

abbrev pub layers_text : List Layer → List ℕ
layers_text layers = flat_map elements_of_layer layers

-- a rectangle of this size at the upper left corner
unfoldable pub whole_text : Pixels → Pixels → List ℕ
whole_text width height = codes "0 0 " ++ pair_text width height

-- the size of a page, all of which is shown
unfoldable pub page_size_text : Pixels → Pixels → List ℕ
page_size_text width height =
    attribute (codes "width") (pixels_text width) ++ attribute (codes "height") (pixels_text height)
    ++ attribute (codes "viewBox") (whole_text width height)

-- what the elements are named by
unfoldable pub namespace_text : List ℕ
namespace_text = attribute (codes "xmlns") (codes "http://www.w3.org/2000/svg")

-- how lines end where an element says nothing else
unfoldable pub ends_text : List ℕ
ends_text = attribute (codes "stroke-linecap") (codes "round") ++ attribute (codes "stroke-linejoin") (codes "round")

-- which letters are taken
unfoldable pub letters_text : List ℕ
letters_text = attribute (codes "font-family") (codes "Inter, Segoe UI, Arial, DejaVu Sans, sans-serif")

-- the title is escaped
unfoldable pub title_text : SvgPage → List ℕ
title_text page = codes "<title>" ++ escaped page.title.items ++ codes "</title>\n"

-- the description is escaped
unfoldable pub description_text : SvgPage → List ℕ
description_text page = codes "<desc>" ++ escaped page.description.items ++ codes "</desc>\n"

-- the beginning of the one element that a page is
unfoldable pub opening_text : Pixels → Pixels → List ℕ
opening_text width height = codes "<svg" ++ namespace_text ++ page_size_text width height ++ ends_text ++ letters_text ++ codes ">\n"

-- what stands before the layers
unfoldable pub head_text : SvgPage → List ℕ
head_text page = opening_text page.width page.height ++ title_text page ++ description_text page

-- a page is one element, with a title, a description and its layers
unfoldable pub page_text : SvgPage → List ℕ
page_text page = head_text page ++ layers_text page.layers.items ++ codes "</svg>\n"
