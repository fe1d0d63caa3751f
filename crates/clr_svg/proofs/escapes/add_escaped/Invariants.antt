use Rattle.std.proofs.Common.{◌≡◌, ◌++◌, drop}
use Rattle.clr_svg.specs.Escapes.{escaped_behind}
use Rattle.clr_svg.proofs.escapes.add_escaped.Given as goal

-- what is added, with what is left of the words, is the whole
abbrev pub invariant-loop-at : goal.invariant-loop-at
invariant-loop-at l = l.text.items ++ escaped_behind l.count (drop l.at l.words) ≡ l.initial.text.items ++ escaped_behind 0 l.words
