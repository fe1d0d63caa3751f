-- Who goes before whom, of the designs that can go now or after others.
use Rattle.std.specs.Prelude.{◌==◌, ℕ, List, [], ◌∷◌, ◌++◌, codes, length, if◌then◌else◌}
use Rattle.std.specs.List.{flat_map}
use Rattle.clr_workspaces.specs.Marks.{Name}
use Rattle.clr_merge_orders.specs.declared.merge_orders.MergeOrder.{MergeOrder}
use Rattle.clr_page_parts.specs.Shown.{Shown, Heading, Paragraph, Picture}
use Rattle.clr_board.specs.declared.turns.Turn.{Turn}
use Rattle.clr_board.specs.Boards.{is_ordered}
use Rattle.clr_board_page.specs.Links.{design_link}

abbrev pub turn_text : List Name → Turn → List ℕ
turn_text names t = codes "<li>" ++ design_link names t.earlier ++ codes ", then " ++ design_link names t.later ++ codes "</li>\n"

abbrev pub turns_text : List Name → List Turn → List ℕ
turns_text names turns = codes "<ul>\n" ++ flat_map (turn_text names) turns ++ codes "</ul>\n"

-- the turns of an order
abbrev pub some_turns : List Name → List Turn → List Shown
some_turns names turns =
    Paragraph (codes "The designs that can go, now or after others, can be merged in each order in which:") ∷ Picture (turns_text names turns) ∷ []

-- an order of designs that can go
abbrev pub found_shown : List Name → List Turn → List Shown
found_shown names turns =
    if length turns == 0 then Paragraph (codes "The designs that can go can be merged in every order.") ∷ [] else some_turns names turns

-- whether there are designs that can go, and an order of them is found
abbrev pub order_shown : List Name → List ℕ → MergeOrder → List Turn → List Shown
order_shown names goers order turns =
    if length goers == 0 then Paragraph (codes "None of these designs can go.") ∷ []
    else if is_ordered order then found_shown names turns
    else Paragraph (codes "No order was found of the designs that can go.") ∷ []

abbrev pub turns_shown : List Name → List ℕ → MergeOrder → List Turn → List Shown
turns_shown names goers order turns = Heading (codes "Who goes first") ∷ order_shown names goers order turns
