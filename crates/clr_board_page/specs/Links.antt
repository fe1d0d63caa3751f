-- Links to parts of the same page, and headings that they lead to. All words are escaped.
use Rattle.std.specs.Prelude.{ℕ, ◌==◌, List, [], ◌++◌, codes, decimal, if◌then◌else◌}
use Rattle.std.specs.List.{enumerate_from, flat_map}
use Rattle.clr_svg.specs.Escapes.{escaped}
use Rattle.clr_workspaces.specs.Marks.{Name}
use Rattle.clr_member_changes.specs.Names.{member_name}
use Rattle.clr_board_page.specs.declared.links.Anchor.{Anchor}
use Rattle.clr_board_page.specs.declared.links.Anchor.TheVariants.{Design, ClashSet}

-- the name of a part of the page: that of a design by its position, or of a clash by its number
abbrev pub anchor_text : Anchor → List ℕ
anchor_text (Design at) = codes "design-" ++ decimal at
anchor_text (ClashSet number) = codes "clash-" ++ decimal number

unfoldable pub link_text : Anchor → List ℕ → List ℕ
link_text anchor words = codes "<a href=\"#" ++ anchor_text anchor ++ codes "\">" ++ escaped words ++ codes "</a>"

unfoldable pub heading_text : Anchor → List ℕ → List ℕ
heading_text anchor words = codes "<h2 id=\"" ++ anchor_text anchor ++ codes "\">" ++ escaped words ++ codes "</h2>\n"

-- what stands in a paragraph is hypertext already
abbrev pub paragraph_text : List ℕ → List ℕ
paragraph_text inner = codes "<p>" ++ inner ++ codes "</p>\n"

-- the name of a design, with a link to what is said of it
abbrev pub design_link : List Name → ℕ → List ℕ
design_link names at = link_text (Design at) (member_name names at)

abbrev pub comma_before : ℕ → List ℕ
comma_before index = if index == 0 then [] else codes ", "

abbrev pub listed_design : List Name → ℕ × ℕ → List ℕ
listed_design names e = comma_before e.0 ++ design_link names e.1

-- designs by position, with commas between them
unfoldable pub designs_text : List Name → List ℕ → List ℕ
designs_text names positions = flat_map (listed_design names) (enumerate_from 0 positions)

-- a clash by its number
abbrev pub clash_link : ℕ → List ℕ
clash_link number = link_text (ClashSet number) (codes "clash " ++ decimal number)
