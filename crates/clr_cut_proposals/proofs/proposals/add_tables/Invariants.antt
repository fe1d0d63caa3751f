use Rattle.std.proofs.Common.{◌≡◌, ◌++◌, take}
use Rattle.std.specs.List.{flat_map}
use Rattle.clr_cut_proposals.specs.Proposals.{tables_text}
use Rattle.clr_cut_proposals.proofs.proposals.add_tables.Given as goal

-- the tables so far are added
abbrev pub invariant-loop-table : goal.invariant-loop-table
invariant-loop-table l = l.text.items ≡ l.initial.text.items ++ flat_map tables_text (take l.table-index l.tables)
