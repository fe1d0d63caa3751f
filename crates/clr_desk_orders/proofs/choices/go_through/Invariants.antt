use Rattle.std.proofs.Common.{take}
use Rattle.clr_desk_orders.specs.ChoicesInOrder.{IsChosenInOrder}
use Rattle.clr_desk_orders.proofs.choices.go_through.Given as goal

-- the names so far are tried
abbrev pub invariant-loop-name : goal.invariant-loop-name
invariant-loop-name l = IsChosenInOrder l.office l.root (take l.name-index l.names) l.choice
