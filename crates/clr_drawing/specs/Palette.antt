-- The colours of designs.
use Rattle.std.specs.Prelude.{ℕ, zero, suc, ◌%◌}
use Rattle.clr_svg.specs.declared.colours.Colour.{Colour}
use Rattle.clr_drawing.specs.declared.palette.DesignColours.{DesignColours}

abbrev pub rgb : ℕ → ℕ → ℕ → Colour
rgb red green blue = record { red = red; green = green; blue = blue }

-- of its lines and signs, of its labels, of what is within its frame, and of its lines where it has no part in a cause
abbrev pub colours_by : Colour → Colour → Colour → Colour → DesignColours
colours_by line label within pale = record { line = line; label = label; within = within; pale = pale }

abbrev pub colours_of_rest : ℕ → DesignColours
colours_of_rest zero = colours_by (rgb 0 114 178) (rgb 0 114 178) (rgb 228 238 240) (rgb 148 196 223)
colours_of_rest (suc zero) = colours_by (rgb 213 94 0) (rgb 188 83 0) (rgb 248 236 224) (rgb 237 187 148)
colours_of_rest (suc (suc zero)) = colours_by (rgb 0 158 115) (rgb 0 131 95) (rgb 228 242 234) (rgb 148 214 196)
colours_of_rest (suc (suc (suc zero))) = colours_by (rgb 204 121 167) (rgb 159 94 130) (rgb 247 238 239) (rgb 234 199 218)
colours_of_rest (suc (suc (suc (suc zero)))) = colours_by (rgb 86 180 233) (rgb 55 116 151) (rgb 236 244 245) (rgb 184 224 246)
colours_of_rest (suc (suc (suc (suc (suc zero))))) = colours_by (rgb 138 90 0) (rgb 138 90 0) (rgb 241 236 224) (rgb 206 186 148)
colours_of_rest (suc (suc (suc (suc (suc (suc zero)))))) = colours_by (rgb 123 79 181) (rgb 123 79 181) (rgb 239 235 240) (rgb 200 181 224)
colours_of_rest (suc (suc (suc (suc (suc (suc (suc n))))))) = colours_by (rgb 47 111 79) (rgb 47 111 79) (rgb 233 237 231) (rgb 168 195 181)

-- behind eight designs they begin anew
abbrev pub colours_of : ℕ → DesignColours
colours_of number = colours_of_rest (number % 8)
