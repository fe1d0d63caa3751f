use Rattle.std.proofs.Common.{◌≡◌, ◌++◌, map, take}
use Rattle.std.specs.List.{flat_map}
use Rattle.clr_deltas.specs.NamedDeltas.{stored_delta}
use Rattle.clr_cut_proposals.specs.Designs.{design_text}
use Rattle.clr_cut_proposals.proofs.proposals.add_designs.Given as goal

-- the designs so far are added
abbrev pub invariant-loop-design : goal.invariant-loop-design
invariant-loop-design l = l.text.items ≡ l.initial.text.items ++ flat_map (design_text l.target l.schema) (map stored_delta (take l.design-index l.designs))
