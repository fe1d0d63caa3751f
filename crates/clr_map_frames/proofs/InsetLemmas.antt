-- What is drawn within a box, step by step.
use Rattle.std.proofs.Common.{◌≡◌, ◌∙◌, ◌++◌, ◌∷◌, Bool, List, [], ap, append_assoc, arith, cond, false, refl, true}
use Rattle.std.specs.Prelude.{ℤ, ◌&&◌, int_le, int_lt}
use Rattle.std.specs.Int.{int_max, int_min}
use Rattle.std.proofs.lemmas.Int.{ints}
use Rattle.std.proofs.lemmas.List.Elements.{All-append, All-cons, All-nil}
use Rattle.clr_svg.specs.declared.elements.Element.{Element}
use Rattle.clr_svg.specs.declared.inks.Ink.{Ink}
use Rattle.clr_svg.specs.declared.pixels.Pixels.{Pixels}
use Rattle.clr_viewports.specs.declared.areas.Area.{Area}
use Rattle.clr_viewports.specs.Areas.{greater_length, holds, lesser_length}
use Rattle.clr_drawing.specs.Sketches.{rectangle_of}
use Rattle.clr_map_frames.specs.Insets.{DrawsWithin, StandsIn}

at_most_greater : (a b : ℤ) → int_le a (int_max a b) ≡ true
at_most_greater a b = by (int_lt b a) refl
  where
    by : (less : Bool) → int_lt b a ≡ less → int_le a (cond less a b) ≡ true
    by true is = grind (arith, ints)
    by false is = grind (arith, ints)

lesser_at_most : (a b : ℤ) → int_le (int_min a b) a ≡ true
lesser_at_most a b = by (int_lt b a) refl
  where
    by : (less : Bool) → int_lt b a ≡ less → int_le (cond less b a) a ≡ true
    by true is = grind (arith, ints)
    by false is = grind (arith, ints)

-- the part of an area that is within a box
pub part_holds : (box a : Area) → holds box (record {
  left = greater_length box.left a.left;
  top = greater_length box.top a.top;
  right = lesser_length box.right a.right;
  bottom = lesser_length box.bottom a.bottom;
}) ≡ true
unfolding holds
part_holds box a = λ i.
    ((at_most_greater box.left.tenths a.left.tenths i && lesser_at_most box.right.tenths a.right.tenths i)
    && at_most_greater box.top.tenths a.top.tenths i)
    && lesser_at_most box.bottom.tenths a.bottom.tenths i

module _ (box : Area) where
  -- an area that is within the box
  pub area_more : (old new : List Element) (a : Area) (radius : Pixels) (ink : Ink) → holds box a ≡ true → new ≡ old ++ rectangle_of a radius ink ∷ []
      → DrawsWithin box old new
  area_more old new a radius ink within is = record {
    more = rectangle_of a radius ink ∷ [];
    drawn = is;
    within = All-cons (StandsIn box) (rectangle_of a radius ink) [] (a, within, refl, refl, refl) (All-nil (StandsIn box));
  }

  pub and_then : (old middle new : List Element) → DrawsWithin box old middle → DrawsWithin box middle new → DrawsWithin box old new
  and_then old middle new a b = record {
    more = a.more ++ b.more;
    drawn = b.drawn ∙ ap (λ (elements : List Element). elements ++ b.more) a.drawn ∙ append_assoc old a.more b.more;
    within = All-append (StandsIn box) a.more b.more a.within b.within;
  }
