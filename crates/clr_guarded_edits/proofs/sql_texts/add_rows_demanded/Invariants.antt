use Rattle.std.proofs.Common.{◌≡◌, ◌++◌, Some, map}
use Rattle.std.specs.List.{flat_map}
use Rattle.clr_guarded_edits.specs.SqlTexts.{statement_text}
use Rattle.clr_guarded_edits.specs.Statements.{Demand, rows_demanded}
use Rattle.clr_guarded_edits.proofs.sql_texts.add_rows_demanded.Given as goal

-- the demands so far, with those of the rows that are left, are all of them
abbrev pub invariant-loop-cell : goal.invariant-loop-cell
invariant-loop-cell l =
    l.text.items ++ flat_map (statement_text l.target l.schema) (map (λ e. Demand e.0 (Some e.1)) l.cell-iterator)
    ≡ l.initial.text.items ++ flat_map (statement_text l.target l.schema) (rows_demanded l.old)
