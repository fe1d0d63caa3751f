use Rattle.std.proofs.Common.{◌∷◌, take}
use Rattle.clr_office.specs.NameHints.{AreNameHints}
use Rattle.clr_office.proofs.name_hints.hint_lines.Given as goal

-- what is said at the root and at the names so far
abbrev pub invariant-loop-name : goal.invariant-loop-name
invariant-loop-name l = AreNameHints l.fn.office (l.fn.root ∷ take l.name-index l.fn.names) l.lines.items
