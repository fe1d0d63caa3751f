use Rattle.std.proofs.Common.{◌≡◌, ◌++◌}
use Rattle.std.specs.List.{flat_map}
use Rattle.clr_guarded_edits.specs.SqlTexts.{statement_text}
use Rattle.clr_guarded_edits.specs.Statements.{free_cells_demanded, if_free}
use Rattle.clr_guarded_edits.proofs.sql_texts.add_free_cells_demanded.Given as goal

-- the demands so far, with those of the changes that are left, are all of them
abbrev pub invariant-loop-cell : goal.invariant-loop-cell
invariant-loop-cell l =
    l.text.items ++ flat_map (statement_text l.target l.schema) (flat_map (λ e. if_free e.0 e.1.before) l.cell-iterator)
    ≡ l.initial.text.items ++ flat_map (statement_text l.target l.schema) (free_cells_demanded l.changes)
