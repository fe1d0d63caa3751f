use Rattle.std.proofs.Common.{◌≡◌}
use Rattle.std.specs.Vec.Iter.{into_iter_items}
use Rattle.clr_readings.proofs.Fronts.{with_front}
use Rattle.clr_rule_text.specs.Fields.{each_in}
use Rattle.clr_rule_text.specs.Lists.{ReadsElements}
use Rattle.clr_rule_text.proofs.lists.make_each.Given as goal

-- the values made so far, and then the others, are what is meant
abbrev pub invariant-loop-element : goal.invariant-loop-element
invariant-loop-element g l =
    (f : _) → ReadsElements (λ x r. goal.F-post g l.make x r) f
    → with_front l.list.items (each_in f (into_iter_items l.element-iterator)) ≡ each_in f l.fn.elements.items
