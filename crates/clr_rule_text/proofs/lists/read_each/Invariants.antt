use Rattle.std.proofs.Common.{◌≡◌, drop}
use Rattle.std.specs.Fn.{FnReturnsAt}
use Rattle.clr_readings.proofs.Fronts.{with_front}
use Rattle.clr_rule_text.specs.Fields.{each_in}
use Rattle.clr_rule_text.specs.Lists.{ReadsElements}
use Rattle.clr_rule_text.proofs.lists.read_each.Given as goal

-- the items read so far, and then the others, are what is meant
abbrev pub invariant-loop-element : goal.invariant-loop-element
invariant-loop-element g l =
    (f : _) → ReadsElements (FnReturnsAt g.F.Fn l.read) f → with_front l.list.items (each_in f (drop l.element-index l.elements)) ≡ each_in f l.elements
