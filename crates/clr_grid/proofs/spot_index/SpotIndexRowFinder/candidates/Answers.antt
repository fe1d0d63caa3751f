use Rattle.std.proofs.Common.{Contains, List, subst, sym}
use Rattle.clr_rows.specs.declared.cells.CellId.{CellId}
use Rattle.clr_rules.proofs.Elements.{contained}
use Rattle.clr_finders.specs.Sharing.{found_cells}
use Rattle.clr_finders.proofs.PassingCells.{one_among}
use Rattle.clr_finders.proofs.NextLemmas.{found_met}
use Rattle.clr_grid.specs.Filing.{AreNear}
use Rattle.clr_finders.specs.RowMaps.{FiledRows}
use Rattle.clr_grid.specs.declared.rule_index.RuleIndex.{RuleIndex}
use Rattle.clr_grid.proofs.IndexLemmas.{met_near}
use Rattle.clr_grid.proofs.spot_index.SpotIndexRowFinder.candidates.Goals as goal

pub returns-then-spots : goal.returns-then-spots
returns-then-spots c q found =
    subst (λ (cells : List CellId). Contains cells q) (sym c.in_ok-cells.ensures)
    (subst (λ (r : FiledRows). Contains (found_cells c.args.servers r.settled c.args.rule c.args.spots.now) q) (sym c.self.view_is) found)

pub returns : goal.returns
returns c q found =
    let rows = c.self.inside.rows in
    let indexes = c.self.inside.rules.items in
    let x = c.args.spots.now in
    let cells = c.in_ok-cells-2.cells.items in
    contained q cells (one_among cells q (met_near rows indexes c.args.servers x c.args.rule cells c.self.invariant.filed c.if-spots.false
    (subst (λ (xs : List RuleIndex). AreNear xs c.args.servers c.args.rule x cells) c.as_slice.ensures.value c.in_ok-cells-2.ensures.near) q
    (found_met c.args.servers rows.settled c.args.rule x q
    (subst (λ (r : FiledRows). Contains (found_cells c.args.servers r.settled c.args.rule x) q) (sym c.self.view_is) found))))
