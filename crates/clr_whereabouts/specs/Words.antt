-- Places that are near and gaps of points, in words.
use Rattle.std.specs.Prelude.{ℕ, ℤ, List, [], ◌++◌, codes, Option, Some, None, if◌then◌else◌}
use Rattle.clr_rows.specs.declared.places.Place.{Place}
use Rattle.clr_metres.specs.Metres.{metres_text}
use Rattle.clr_phrases.specs.Places.{place_text}
use Rattle.clr_whereabouts.specs.declared.gaps.Gap.{Gap}

-- near which place rows meet, if it is told
abbrev pub near_text : Option Place → List ℕ
near_text None = []
near_text (Some p) = codes "near " ++ place_text p ++ codes ", "

-- the word before lengths that are rounded
abbrev pub rounded_word : Gap → List ℕ
rounded_word gap = if gap.is_whole then [] else codes "about "

abbrev pub rounded_length : Gap → ℤ → List ℕ
rounded_length gap length = rounded_word gap ++ metres_text length

-- how far apart two points are, and by how much they are too near
abbrev pub gap_sentence : Gap → List ℕ
gap_sentence gap =
    codes "  They are " ++ rounded_length gap gap.distance ++ codes " m apart, " ++ rounded_length gap gap.missing ++ codes " m too near.\n"

-- the same of points that are too near, and nothing of others
abbrev pub gap_text : Option Gap → List ℕ
gap_text None = []
gap_text (Some gap) = gap_sentence gap
