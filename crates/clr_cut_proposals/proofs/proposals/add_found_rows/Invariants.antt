use Rattle.std.proofs.Common.{◌≡◌, ◌++◌, ℕ, List, take}
use Rattle.std.specs.List.{flat_map}
use Rattle.clr_cut_proposals.specs.Proposals.{found_rows_text}
use Rattle.clr_cut_proposals.proofs.proposals.add_found_rows.Given as goal

-- the tables so far are added
abbrev pub invariant-loop-table : goal.invariant-loop-table
invariant-loop-table l = l.text.items ≡ l.initial.text.items
    ++ flat_map (found_rows_text (λ (name : List ℕ). l.prefix ++ name)) (take l.table-index l.tables)
