-- How lengths, colours and attributes are written.
use Rattle.std.specs.Prelude.{ℕ, ℤ, List, [], ◌∷◌, ◌++◌, ◌+◌, ◌/◌, ◌%◌, nat_eq, nat_lt, codes, unsigned_abs, if◌then◌else◌}
use Rattle.std.specs.Fmt.{decimal}
use Rattle.std.specs.Int.{is_negative}
use Rattle.clr_svg.specs.declared.colours.Colour.{Colour}
use Rattle.clr_svg.specs.declared.elements.PagePoint.{PagePoint}
use Rattle.clr_svg.specs.declared.pixels.Pixels.{Pixels}

abbrev pub sign_text : ℤ → List ℕ
sign_text n = if is_negative n then codes "-" else []

abbrev pub tenth_text : ℕ → List ℕ
tenth_text n = if nat_eq n 0 then [] else codes "." ++ decimal n

-- a length is written in pixels, as `-12.5`, or `12` where it is whole
unfoldable pub pixels_text : Pixels → List ℕ
pixels_text p = sign_text p.tenths ++ decimal (unsigned_abs p.tenths / 10) ++ tenth_text (unsigned_abs p.tenths % 10)

-- two lengths
unfoldable pub pair_text : Pixels → Pixels → List ℕ
pair_text p q = pixels_text p ++ codes " " ++ pixels_text q

abbrev pub spot_text : PagePoint → List ℕ
spot_text s = pair_text s.x s.y

abbrev pub hex_digit : ℕ → ℕ
hex_digit n = if nat_lt n 10 then 48 + n else 87 + n

abbrev pub hex_text : ℕ → List ℕ
hex_text n = hex_digit (n / 16) ∷ hex_digit (n % 16) ∷ []

-- a colour is written as `#0072b2`
unfoldable pub colour_text : Colour → List ℕ
colour_text c = codes "#" ++ hex_text c.red ++ hex_text c.green ++ hex_text c.blue

-- an attribute is written as ` width="12.5"`
unfoldable pub attribute : List ℕ → List ℕ → List ℕ
attribute name value = codes " " ++ name ++ codes "=\"" ++ value ++ codes "\""
