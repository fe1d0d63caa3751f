use Rattle.std.proofs.Common.{◌≡◌, take}
use Rattle.clr_choices.proofs.choices.copies.Given as goal

-- the names so far
abbrev pub invariant-loop-text : goal.invariant-loop-text
invariant-loop-text l = l.list.items ≡ take l.text-index l.names
