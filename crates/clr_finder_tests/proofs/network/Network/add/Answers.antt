use Rattle.std.proofs.Common.{◌∙◌, ap}
use Rattle.std.specs.FinMap as finite
use Rattle.clr_rows.specs.Cells.{cell_cmp}
use Rattle.clr_finder_tests.proofs.network.Network.add.Goals as goal

pub note-requires-clause-free : goal.note-requires-clause-free
note-requires-clause-free g c = ap (λ pending. finite.get pending c.args.row.now.cell) c.requires ∙ finite.get-empty cell_cmp c.args.row.now.cell
