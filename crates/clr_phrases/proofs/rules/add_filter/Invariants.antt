use Rattle.std.proofs.Common.{◌≡◌, ◌++◌, codes, string_bytes, take}
use Rattle.std.specs.List.{flat_map}
use Rattle.clr_phrases.specs.Rules.{condition_text}
use Rattle.clr_phrases.proofs.rules.add_filter.Given as goal

-- the first of what the rows have in common, and the others so far
abbrev pub invariant-loop-other : goal.invariant-loop-other
invariant-loop-other l = string_bytes l.text ≡ string_bytes l.initial.text
    ++ flat_map (λ other. codes " and " ++ condition_text l.schema l.side other) (take l.other-index l.others)
