use Rattle.std.proofs.Common.{◌≡◌, map, take}
use Rattle.clr_command_line.proofs.values.owned_names.Given as goal

-- the texts so far are owned
abbrev pub invariant-loop-text : goal.invariant-loop-text
invariant-loop-text l = l.list.items ≡ map (λ text. text.now) (take l.text-index l.texts)
