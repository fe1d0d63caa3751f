use Rattle.std.proofs.Common.{◌≡◌, ◌++◌, drop, map}
use Rattle.clr_office_writing.specs.Lists.{Writes}
use Rattle.clr_office_writing.specs.Tokens.{list_tokens, tokens_of}
use Rattle.clr_office_writing.specs.Values.{list_data}
use Rattle.clr_office_writing.proofs.lists.write_each.Given as goal

-- what is written, with the elements that are left, is all
abbrev pub invariant-loop-element : goal.invariant-loop-element
invariant-loop-element g l =
    ((f : _) → Writes (goal.F-post g l.write) f → l.text ++ list_tokens f (drop l.element-index l.elements) ≡ l.fn.text ++ tokens_of (list_data f l.elements))
    × ((named : _ → g.row.N.Denot) (f : _) → Writes (goal.F-post g l.write) (λ x. f (named x))
    → l.text ++ list_tokens f (map named (drop l.element-index l.elements)) ≡ l.fn.text ++ tokens_of (list_data f (map named l.elements)))
