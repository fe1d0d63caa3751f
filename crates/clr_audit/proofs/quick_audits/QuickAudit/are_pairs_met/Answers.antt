use Rattle.std.proofs.Common.{◌≤◌, Contains, false, length, arith, subst, sym}
use Rattle.clr_rows.specs.declared.cells.CellId.{CellId}
use Rattle.clr_rows.specs.Contents.{row_at}
use Rattle.clr_rows.specs.Held.{held_of}
use Rattle.clr_finders.specs.Sharing.{found_cells, rule_spots}
use Rattle.clr_audit.proofs.MeetingLaws.{all_met, one_met}
use Rattle.clr_audit.proofs.quick_audits.QuickAudit.are_pairs_met.Goals as goal

pub loop-cell-preserved : goal.loop-cell-preserved
loop-cell-preserved g c =
    one_met c.args.self.now.book.now (row_at c.args.self.now.sheet.now) c.args.rule (held_of c.args.first) c.deref-cell-items.result.now c.loop-cell.cell-index
    _ (omega (arith, c.loop-cell-test.true, c.loop-cell.auto.cell-index-end)) c.loop-cell.invariant (c.is_met_beside.ensures c.if-not-is_met_beside.false)

pub returns : goal.returns
returns g c =
    let rules = c.args.self.now.book.now in
    let content = c.args.self.now.sheet.now in
    let past : length c.deref-cell-items.result.now ≤ c.loop-cell.cell-index = omega (arith, c.loop-cell-test.false, c.loop-cell.auto.cell-index-end) in
    let settled = g.F.RowFinder.settled c.args.self.now.finder.now in
    let found : (q : CellId) → Contains (found_cells false settled c.args.rule (rule_spots rules c.args.rule (held_of c.args.first))) q
    → Contains c.deref-cell-items.result.now q = λ q h. subst (λ list. Contains list q) (sym c.deref-cell-items.ensures.value)
    (c.in_ok-cells.ensures q (subst (λ x. Contains (found_cells false settled c.args.rule x) q) (sym c.requires.spots) h)) in
    λ _. all_met rules content settled c.args.rule (held_of c.args.first) c.deref-cell-items.result.now
    c.loop-cell.cell-index c.requires.fits c.requires.settled c.requires.number found past c.loop-cell.invariant
