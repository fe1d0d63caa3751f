use Rattle.std.proofs.Common.{◌≡◌, ◌++◌, map, take}
use Rattle.std.specs.List.{flat_map}
use Rattle.clr_board_page.specs.Orders.{turn_text}
use Rattle.clr_board_page.proofs.order_sections.add_turns.Given as goal

-- the turns so far
abbrev pub invariant-loop-turn : goal.invariant-loop-turn
invariant-loop-turn l = l.page.items ≡ l.initial.page.items ++ flat_map (turn_text (map (λ name. name.now) l.names)) (take l.turn-index l.turns)
