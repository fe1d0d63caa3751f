use Rattle.std.proofs.Common.{◌≡◌, map, take}
use Rattle.clr_layer_reports.proofs.near_names.texts_of.Given as goal

-- the names so far
abbrev pub invariant-loop-name : goal.invariant-loop-name
invariant-loop-name l = map (λ text. text.now) l.texts.items ≡ take l.name-index l.names
