use Rattle.std.proofs.Common.{[], ◌⊎◌, inl, inr, Contains}
use Rattle.clr_rules.proofs.Elements.{among}
use Rattle.clr_needs.proofs.Reading.{read_in}
use Rattle.clr_row_versions.specs.Gains.{OfSome}
use Rattle.clr_row_versions.proofs.Gaining.{gains_as, of_all, of_one_more}
use Rattle.clr_foot.specs.Scenes.{setting_in}
use Rattle.clr_foot.specs.Ties.{IsChangedCell}
use Rattle.clr_foot.proofs.scenes.Scene.changed_among.Goals as goal

pub loop-cell-preserved : goal.loop-cell-preserved
loop-cell-preserved g c =
    let s = setting_in g.V.RowView.content c.args.self.now in
    let cells = c.args.cells.now in
    of_one_more (OfSome (IsChangedCell s) cells) (IsChangedCell s) cells c.loop-cell.cell-index _ _ _ _ c.loop-cell-test.true c.loop-cell.invariant
    (gains_as _ _ _ _ _ _ (λ q w. (_, read_in cells c.loop-cell.cell-index _ c.loop-cell-test.true, w)) (λ q w. w) c.in_ok-add_if_changed_cell.ensures)

pub returns : goal.returns
returns g c q =
    let s = setting_in g.V.RowView.content c.args.self.now in
    let all = of_all (OfSome (IsChangedCell s) c.args.cells.now) (IsChangedCell s) c.args.cells.now c.loop-cell.cell-index _ _ c.loop-cell-test.false
    c.loop-cell.invariant in
    (λ h. only (all.only q h), λ w. all.every q w)
  where
    only : Contains [] q ⊎ OfSome (IsChangedCell (setting_in g.V.RowView.content c.args.self.now)) c.args.cells.now q
        → OfSome (IsChangedCell (setting_in g.V.RowView.content c.args.self.now)) c.args.cells.now q
    only (inl h) = absurd (among q [] h)
    only (inr w) = w
