use Rattle.std.proofs.Common.{ap, sym, ◌∙◌}
use Rattle.std.specs.FinMap as finite
use Rattle.clr_rows.specs.Cells.{cell_cmp}
use Rattle.clr_deltas.specs.Deltas.{saved_differences}
use Rattle.clr_contents.proofs.reads.saved_difference.Goals as goal

pub returns-in-Child : goal.returns-in-Child
returns-in-Child c = sym (ap (λ m. finite.get (saved_differences m) c.args.cell) c.in-Child.is ∙ finite.get-empty cell_cmp c.args.cell)
