-- How a design stands, in words with links.
use Rattle.std.specs.Prelude.{◌==◌, ℕ, List, [], ◌∷◌, ◌++◌, codes, filter, not, if◌then◌else◌}
use Rattle.std.specs.List.{enumerate_from, flat_map}
use Rattle.clr_rows.specs.Contents.{Changes}
use Rattle.clr_svg.specs.Escapes.{escaped}
use Rattle.clr_workspaces.specs.Marks.{Name}
use Rattle.clr_member_changes.specs.Counts.{counts_of}
use Rattle.clr_clash_helpers.specs.declared.helped.HelpedClash.{HelpedClash}
use Rattle.clr_page_parts.specs.Counts.{counts_text}
use Rattle.clr_board.specs.declared.states.DesignState.{DesignState}
use Rattle.clr_board.specs.declared.states.DesignState.TheVariants.{Free, Waiting, Unaided, Conflicted, Clashing}
use Rattle.clr_board.specs.Boards.{earlier_of}
use Rattle.clr_board.specs.States.{has_member, helpers_of, state_of}
use Rattle.clr_board_page.specs.Links.{clash_link, design_link, designs_text}
use Rattle.clr_board_page.specs.Said.{Said}

-- the clashes of a design ---------------------------------------------------------------------------

abbrev pub others_in : ℕ → HelpedClash → List ℕ
others_in at h = filter (λ x. not (x == at)) h.clash.now.members.items

abbrev pub with_others : List Name → List ℕ → List ℕ
with_others names [] = []
with_others names (x ∷ xs) = codes " with " ++ designs_text names (x ∷ xs)

-- a clash that has the design, on a line of its own, with the other designs of it
abbrev pub clash_of_design : List Name → ℕ → ℕ × HelpedClash → List ℕ
clash_of_design names at e = if has_member at e.1 then codes "<br/>" ++ clash_link e.0 ++ with_others names (others_in at e.1) else []

-- each clash that has the design; clashes are counted from 1
unfoldable pub clashes_of_design : List Name → List HelpedClash → ℕ → List ℕ
clashes_of_design names helped at = flat_map (clash_of_design names at) (enumerate_from 1 helped)

-- the state -----------------------------------------------------------------------------------------

-- a design that waits: who goes before it in the order that is found, or who helps it if none does
abbrev pub waiting_text : List Name → List ℕ → List ℕ → List ℕ
waiting_text names [] helpers = codes "<b>waits</b>; each of these helps: " ++ designs_text names helpers
waiting_text names (x ∷ xs) helpers = codes "<b>goes after</b> " ++ designs_text names (x ∷ xs)

abbrev pub state_words : Said → ℕ → DesignState → List ℕ
state_words said at Free = codes "<b class=\"good\">can go now</b>, in every order"
state_words said at Waiting = waiting_text said.names (earlier_of said.turns at) (helpers_of said.helped at)
state_words said at Unaided = codes "<b class=\"bad\">can't go</b>: alone it is refused, and none of these designs helps"
state_words said at Conflicted = codes "<b class=\"bad\">in conflict</b> with " ++ escaped said.root
state_words said at Clashing = codes "<b class=\"bad\">clashes</b>"

-- how a design stands, and then its clashes
unfoldable pub state_text : Said → ℕ → List ℕ
state_text said at = state_words said at (state_of said.helped at) ++ clashes_of_design said.names said.helped at

-- the table of all designs ----------------------------------------------------------------------------

abbrev pub row_of_design : Said → ℕ × Changes → List ℕ
row_of_design said e =
    codes "<tr><td style=\"min-width:6em\">" ++ design_link said.names e.0 ++ codes "</td><td>" ++ state_text said e.0 ++ codes "</td><td>"
    ++ counts_text (counts_of e.1) ++ codes "</td></tr>\n"

unfoldable pub rows_of_designs : Said → List Changes → List ℕ
rows_of_designs said sets = flat_map (row_of_design said) (enumerate_from 0 sets)

-- each design, how it stands, and how many rows it adds, changes and removes
abbrev pub designs_table : Said → List Changes → List ℕ
designs_table said sets =
    codes "<table>\n<thead>\n<tr><th>Design</th><th>How it stands</th><th>Rows</th></tr>\n</thead>\n<tbody>\n" ++ rows_of_designs said sets
    ++ codes "</tbody>\n</table>\n"
