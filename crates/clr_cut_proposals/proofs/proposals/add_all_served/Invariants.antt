use Rattle.std.proofs.Common.{◌≡◌, ◌++◌, take}
use Rattle.std.specs.List.{flat_map}
use Rattle.clr_cut_proposals.specs.Searches.{served_text}
use Rattle.clr_cut_proposals.proofs.proposals.add_all_served.Given as goal

-- the rules so far are added
abbrev pub invariant-loop-rule : goal.invariant-loop-rule
invariant-loop-rule l = l.text.items ≡ l.initial.text.items ++ flat_map (served_text l.target l.schema) (take l.rule-index l.rules)
