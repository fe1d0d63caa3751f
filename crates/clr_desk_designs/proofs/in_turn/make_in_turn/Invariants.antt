use Rattle.std.proofs.Common.{take}
use Rattle.clr_desk_designs.specs.InTurn.{AreMade}
use Rattle.clr_desk_designs.proofs.in_turn.make_in_turn.Given as goal

-- the designs so far are made
abbrev pub invariant-loop-design : goal.invariant-loop-design
invariant-loop-design l = AreMade l.taken l.options l.may_remove l.initial.office (take l.design-index l.designs) l.office l.notes.items
