use Rattle.std.proofs.Common.{sym, ◌∙◌}
use Rattle.serde_json.specs.View.{view}
use Rattle.clr_faults.proofs.InWorkspaces.{without_cells}
use Rattle.clr_faults.proofs.marks.spot_at_mark.Goals as goal

pub returns-in-None : goal.returns-in-None
returns-in-None c =
    without_cells (view c.args.text.json.now) c.args.text.fault c.args.text.format c.args.text.schema.now c.args.at (view c.args.one.now) c.args.mark
    (view c.in-Some.item.now) c.requires (rw c.in-Some.is at c.in_ok-item.ensures) (sym c.in_ok-is_savepoint.ensures ∙ c.if-not-branch.false)
    (rw c.in_ok-first.ensures at c.in-None.ensures)
