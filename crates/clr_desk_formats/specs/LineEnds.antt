-- Where the lines of a JSON text end that is written in lines.
use Rattle.std.specs.Prelude.{◌==◌, ◌&&◌, ◌||◌, ℕ, Bool, false, List, [], ◌∷◌, ◌++◌, if◌then◌else◌}
use Rattle.clr_desk_formats.specs.declared.line_ends.JsonState.{JsonState}
use Rattle.clr_desk_formats.specs.declared.line_ends.JsonState.TheVariants as place

-- the place behind one more byte: within a text of the JSON text, behind a `\` in one, or between such texts
abbrev pub behind : JsonState → ℕ → JsonState
behind place.Within byte = if byte == 92 then place.Escaped else (if byte == 34 then place.Between else place.Within)
behind place.Escaped byte = place.Within
behind place.Between byte = if byte == 34 then place.Within else place.Between

-- a list begins or goes on behind a byte
abbrev pub is_in_list : ℕ → Bool
is_in_list before = (before == 91) || (before == 44)

-- a line ends between two bytes: before an object of a list, and before the end of a list whose last item is an object
abbrev pub ends_line : JsonState → ℕ → ℕ → Bool
ends_line place.Between before byte = if byte == 123 then is_in_list before else ((byte == 93) && (before == 125))
ends_line _ before byte = false

abbrev pub line_end_if : Bool → List ℕ
line_end_if ends = if ends then 10 ∷ [] else []

-- the bytes that stand at a place and behind a byte, with the ends of lines
abbrev pub lined_from : JsonState → ℕ → List ℕ → List ℕ
lined_from place before [] = []
lined_from place before (byte ∷ bytes) = line_end_if (ends_line place before byte) ++ byte ∷ lined_from (behind place byte) byte bytes

abbrev pub lined : List ℕ → List ℕ
lined text = lined_from place.Between 10 text
