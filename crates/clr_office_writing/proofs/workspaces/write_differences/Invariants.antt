use Rattle.std.proofs.Common.{◌≡◌, ◌++◌, map}
use Rattle.clr_office_writing.specs.CellData.{differences_data, named_cell, named_cell_data}
use Rattle.clr_office_writing.specs.Tokens.{list_tokens, tokens_of}
use Rattle.clr_office_writing.proofs.workspaces.write_differences.Given as goal

-- what is written, with the cells that are left, is all
abbrev pub invariant-loop-cell : goal.invariant-loop-cell
invariant-loop-cell l = l.text ++ list_tokens named_cell_data (map (named_cell l.schema) l.cell-iterator) ≡ l.fn.text
    ++ tokens_of (differences_data l.schema l.differences)
