use Rattle.std.proofs.Common.{◌≡◌, map, take}
use Rattle.clr_phrases.specs.Rules.{column_name}
use Rattle.clr_phrases.proofs.rules.add_columns.Given as goal

-- the names so far
abbrev pub invariant-loop-column : goal.invariant-loop-column
invariant-loop-column l = map (λ name. name.now) l.names.items ≡ map (column_name l.schema l.side) (take l.column-index l.columns)
