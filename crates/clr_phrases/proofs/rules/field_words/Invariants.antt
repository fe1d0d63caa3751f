use Rattle.std.proofs.Common.{◌≡◌, ◌++◌, codes, string_bytes, take}
use Rattle.std.specs.List.{flat_map}
use Rattle.clr_rows.specs.Held.{held_of}
use Rattle.clr_phrases.specs.Rules.{field_text}
use Rattle.clr_phrases.proofs.rules.field_words.Given as goal

-- the first field, and the others so far
abbrev pub invariant-loop-other : goal.invariant-loop-other
invariant-loop-other l = string_bytes l.text ≡ string_bytes l.initial.text
    ++ flat_map (λ other. codes " and " ++ field_text l.schema l.side (held_of l.held) other) (take l.other-index l.others)
