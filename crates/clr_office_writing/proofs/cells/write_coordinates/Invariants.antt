use Rattle.std.proofs.Common.{◌≡◌, ◌++◌, drop}
use Rattle.clr_office_writing.specs.CellData.{coordinates_of}
use Rattle.clr_office_writing.specs.Tokens.{list_tokens, tokens_of}
use Rattle.clr_office_writing.specs.Values.{list_data, number_data}
use Rattle.clr_office_writing.proofs.cells.write_coordinates.Given as goal

-- what is written, with the places that are left, is all
abbrev pub invariant-loop-place : goal.invariant-loop-place
invariant-loop-place l = l.text ++ list_tokens number_data (coordinates_of (drop l.place-index l.places)) ≡ l.fn.text
    ++ tokens_of (list_data number_data (coordinates_of l.places))
