-- Lengths of a page, in tenths of a pixel. What leaves 64 bits stops at their limit.
use Rattle.std.specs.Prelude.{ℤ, pos, ◌+ℤ◌, ◌-ℤ◌, ◌*ℤ◌, int_div}
use Rattle.std.specs.Int.{saturate_signed, w64}
use Rattle.clr_svg.specs.declared.pixels.Pixels.{Pixels}

-- the number of 64 bits that is nearest
abbrev pub stopped : ℤ → ℤ
stopped n = saturate_signed w64 n

-- of this many tenths of a pixel
abbrev pub length_of : ℤ → Pixels
length_of n = record { tenths = n }

abbrev pub whole : ℤ → Pixels
whole n = length_of (stopped (n *ℤ pos 10))

abbrev pub plus : Pixels → Pixels → Pixels
plus a b = length_of (stopped (a.tenths +ℤ b.tenths))

abbrev pub minus : Pixels → Pixels → Pixels
minus a b = length_of (stopped (a.tenths -ℤ b.tenths))

abbrev pub times : Pixels → ℤ → Pixels
times a n = length_of (stopped (a.tenths *ℤ n))

-- towards 0
abbrev pub half : Pixels → Pixels
half a = length_of (int_div a.tenths (pos 2))
