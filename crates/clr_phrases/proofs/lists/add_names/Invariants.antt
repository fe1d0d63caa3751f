use Rattle.std.proofs.Common.{◌≡◌, ◌++◌, codes, string_bytes, take}
use Rattle.std.specs.List.{flat_map}
use Rattle.clr_phrases.proofs.lists.add_names.Given as goal

-- the first name, and those between so far, each behind a comma
abbrev pub invariant-loop-name : goal.invariant-loop-name
invariant-loop-name l = string_bytes l.text ≡ string_bytes l.initial.text ++ flat_map (λ name. codes ", " ++ name.now) (take l.name-index l.between)
