use Rattle.std.proofs.Common.{◌≡◌, ◌++◌, map}
use Rattle.std.specs.List.{flat_map}
use Rattle.clr_guarded_edits.specs.SqlTexts.{statement_text}
use Rattle.clr_guarded_edits.specs.Statements.{Make, guarded_edits}
use Rattle.clr_guarded_edits.proofs.sql_texts.add_guarded_edits.Given as goal

-- the edits so far, with those of the changes that are left, are all of them
abbrev pub invariant-loop-cell : goal.invariant-loop-cell
invariant-loop-cell l =
    l.text.items ++ flat_map (statement_text l.target l.schema) (map (λ e. Make e.0 e.1) l.cell-iterator)
    ≡ l.initial.text.items ++ flat_map (statement_text l.target l.schema) (guarded_edits l.changes)
