use Rattle.std.proofs.Common.{◌≡◌, ◌++◌, take}
use Rattle.std.specs.List.{flat_map}
use Rattle.clr_guarded_edits.specs.SqlTexts.{pass_text}
use Rattle.clr_guarded_edits.proofs.sql_texts.add_passes.Given as goal

-- the passes so far are added
abbrev pub invariant-loop-table : goal.invariant-loop-table
invariant-loop-table l = l.text.items ≡ l.initial.text.items ++ flat_map (pass_text l.target) (take l.table-index l.tables)
