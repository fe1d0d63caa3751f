-- What a map says of who goes before whom.
use Rattle.std.specs.Prelude.{◌≡◌, ℕ, ◌-◌, ◌==◌, List, [], ◌∷◌, ◌++◌, Option, Some, None, codes, decimal, length, map, take, if◌then◌else◌}
use Rattle.clr_cert.specs.declared.certificates.Precedence.{Precedence}
use Rattle.clr_svg.specs.declared.pages.Layer.{Layer}
use Rattle.clr_map_frames.specs.HeadingLines.{said}

abbrev pub turn_text : Precedence → List ℕ
turn_text p = p.earlier ++ codes ", then " ++ p.later

-- how many more there are, if there are more
abbrev pub more_lines : ℕ → List (List ℕ)
more_lines count = if count == 0 then [] else (codes "and " ++ decimal count ++ codes " more") ∷ []

-- of up to twelve precedences all, in their order; of more the first twelve, and how many more there are
unfoldable pub turn_lines : List Precedence → List (List ℕ)
turn_lines before = map turn_text (take 12 before) ++ more_lines (length before - 12)

-- under a heading, if an order is found; else nothing
abbrev pub turns_said : Option (List Precedence) → List (List ℕ)
turns_said None = []
turns_said (Some before) = codes "CLEARED IN THIS ORDER" ∷ turn_lines before

-- all that a layer says, which is seen whole
pub record ShowsTurns (before : Option (List Precedence)) (layer : Layer) : Type 0 where
  pub says : said layer.elements.items ≡ turns_said before
  pub seen : layer.window ≡ None
