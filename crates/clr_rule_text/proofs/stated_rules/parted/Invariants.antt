use Rattle.std.proofs.Common.{◌≡◌, ◌++◌, map}
use Rattle.std.specs.Vec.Iter.{into_iter_items}
use Rattle.clr_rule_text.proofs.stated_rules.parted.Given as goal

-- what was taken apart, and then what is left, is what was stated
abbrev pub invariant-loop-one : goal.invariant-loop-one
invariant-loop-one l =
    (l.rules.items ++ map (λ s. s.rule) (into_iter_items l.one-iterator) ≡ map (λ s. s.rule) l.fn.stated.items)
    × (l.known.items ++ map (λ s. s.known) (into_iter_items l.one-iterator) ≡ map (λ s. s.known) l.fn.stated.items)
