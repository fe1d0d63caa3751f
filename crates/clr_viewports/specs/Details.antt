-- How much detail there is room for.
use Rattle.std.specs.Prelude.{ℕ, ℤ, pos, ◌*ℤ◌, Bool, true, false, int_div, int_lt, if◌then◌else◌}
use Rattle.clr_svg.specs.Lengths.{stopped}
use Rattle.clr_viewports.specs.declared.areas.Area.{Area}
use Rattle.clr_viewports.specs.declared.details.Detail.{Detail}
use Rattle.clr_viewports.specs.declared.details.Detail.TheVariants.{Coarse, Middle, Fine}
use Rattle.clr_viewports.specs.Areas.{height_of, width_of}

-- the whole pixels of an area
unfoldable pub pixels_of : Area → ℤ
pixels_of area = stopped (int_div (width_of area).tenths (pos 10) *ℤ int_div (height_of area).tenths (pos 10))

-- the area has more pixels than a square of this many pixels for each row
unfoldable pub has_pixels_for_rows : Area → ℕ → ℤ → Bool
has_pixels_for_rows area rows square = int_lt (stopped (stopped (pos rows) *ℤ square)) (pixels_of area)

-- the squares have sides of 26 and of 11 pixels
abbrev pub detail_of : Area → ℕ → Detail
detail_of area rows =
    if has_pixels_for_rows area rows (pos 676) then Fine
    else if has_pixels_for_rows area rows (pos 121) then Middle
    else Coarse

abbrev pub is_fine : Detail → Bool
is_fine Fine = true
is_fine Middle = false
is_fine Coarse = false

abbrev pub is_coarse : Detail → Bool
is_coarse Coarse = true
is_coarse Middle = false
is_coarse Fine = false
