use Rattle.std.proofs.Common.{◌≡◌, ◌++◌, map}
use Rattle.clr_office_writing.specs.CellData.{live_data, named_row, named_row_data}
use Rattle.clr_office_writing.specs.Tokens.{list_tokens, tokens_of}
use Rattle.clr_office_writing.proofs.cells.write_live.Given as goal

-- what is written, with the cells that are left, is all
abbrev pub invariant-loop-cell : goal.invariant-loop-cell
invariant-loop-cell l = l.text ++ list_tokens named_row_data (map (named_row l.schema) l.cell-iterator) ≡ l.fn.text ++ tokens_of (live_data l.schema l.live)
