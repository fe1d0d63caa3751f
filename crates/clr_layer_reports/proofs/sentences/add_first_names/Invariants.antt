use Rattle.std.proofs.Common.{◌≡◌, ◌++◌, take}
use Rattle.std.specs.List.{flat_map}
use Rattle.clr_layer_reports.specs.FaultSayings.{listed_name}
use Rattle.clr_layer_reports.proofs.sentences.add_first_names.Given as goal

-- the names so far are added
abbrev pub invariant-loop-name : goal.invariant-loop-name
invariant-loop-name l = l.line.items ≡ l.initial.line.items ++ flat_map listed_name (take l.name-index l.names)
