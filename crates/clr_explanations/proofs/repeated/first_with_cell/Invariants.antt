use Rattle.serde_json.specs.View.{view}
use Rattle.clr_explanations.specs.RepeatedCells.{NoneBefore}
use Rattle.clr_explanations.proofs.repeated.first_with_cell.Given as goal

-- none of the items so far has the cell
abbrev pub invariant-loop-place : goal.invariant-loop-place
invariant-loop-place l = NoneBefore (view l.json) l.spot (l.table, l.key) l.place
