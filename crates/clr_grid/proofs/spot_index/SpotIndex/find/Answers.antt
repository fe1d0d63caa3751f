use Rattle.std.proofs.Common.{sym, subst, List}
use Rattle.clr_rows.specs.declared.cells.CellId.{CellId}
use Rattle.clr_grid.specs.Filing.{AreNear}
use Rattle.clr_grid.specs.declared.rule_index.RuleIndex.{RuleIndex}
use Rattle.clr_grid.proofs.IndexLemmas.{met_near}
use Rattle.clr_grid.proofs.spot_index.SpotIndex.find.Goals as goal

pub find_among-requires-clause-all : goal.find_among-requires-clause-all
find_among-requires-clause-all c =
    met_near c.self.inside.rows c.self.inside.rules.items c.args.servers c.in_ok-spots.spots c.args.rule c.as_slice-2.result.now c.self.invariant.filed
    c.if-spots.false
    (subst (λ (cells : List CellId). AreNear c.self.inside.rules.items c.args.servers c.args.rule c.in_ok-spots.spots cells) (sym c.as_slice-2.ensures.value)
    (subst (λ (xs : List RuleIndex). AreNear xs c.args.servers c.args.rule c.in_ok-spots.spots c.in_ok-cells.cells.items) c.as_slice.ensures.value
    c.in_ok-cells.ensures.near))
