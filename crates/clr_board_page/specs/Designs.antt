-- What is said of each design: how it stands, how many rows it changes, and where.
use Rattle.std.specs.Prelude.{◌≡◌, ℕ, List, [], ◌∷◌, ◌++◌, Option, Some, None}
use Rattle.clr_rows.specs.Contents.{Changes}
use Rattle.clr_workspaces.specs.Marks.{Name}
use Rattle.clr_steps.specs.Offices.{Office}
use Rattle.clr_steps.specs.Readings.{changes_in}
use Rattle.clr_member_changes.specs.Counts.{counts_of}
use Rattle.clr_page_parts.specs.Counts.{counts_text}
use Rattle.clr_page_parts.specs.Shown.{Shown, Paragraph, Picture}
use Rattle.clr_small_maps.specs.SmallMaps.{IsSmallMap}
use Rattle.clr_board_page.specs.declared.links.Anchor.TheVariants.{Design}
use Rattle.clr_board_page.specs.Links.{heading_text, paragraph_text}
use Rattle.clr_board_page.specs.Said.{Said}
use Rattle.clr_board_page.specs.States.{state_text}

abbrev pub picture_of : Option (List ℕ) → List Shown
picture_of None = []
picture_of (Some text) = Picture text ∷ []

-- the name of a design, and how it stands
abbrev pub design_head : Said → ℕ → Name → List ℕ
design_head said at name = heading_text (Design at) name ++ paragraph_text (state_text said at)

abbrev pub design_shown : Said → ℕ → Name → Changes → Option (List ℕ) → List Shown
design_shown said at name set map = Picture (design_head said at name) ∷ Paragraph (counts_text (counts_of set)) ∷ picture_of map

-- the design of a name at a position, with the map of what it changes
abbrev pub IsDesignSection : Office → Said → ℕ × Name → List Shown → Type 0
IsDesignSection o said e blocks =
    (map : Option (List ℕ)) × IsSmallMap e.1 (counts_text (counts_of (changes_in o e.1))) (changes_in o e.1 ∷ []) map
    × (blocks ≡ design_shown said e.0 e.1 (changes_in o e.1) map)

-- a section for each
abbrev pub AreDesignSections : Office → Said → List (ℕ × Name) → List (List Shown) → Type 0
AreDesignSections o said [] [] = Unit {0}
AreDesignSections o said (e ∷ es) (blocks ∷ sections) = IsDesignSection o said e blocks × AreDesignSections o said es sections
AreDesignSections o said _ _ = ⊥
