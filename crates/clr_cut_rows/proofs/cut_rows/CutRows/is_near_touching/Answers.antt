use Rattle.std.proofs.Common.{List, false, subst, true}
use Rattle.std.specs.Prelude.{Decides}
use Rattle.clr_rows.specs.declared.cells.CellId.{CellId}
use Rattle.clr_reach.specs.Found.{MayTouch}
use Rattle.clr_cut_rows.specs.Searches.{HasAmong, setting_in}
use Rattle.clr_cut_rows.proofs.SearchLemmas.{first_told, near_told, second_told}
use Rattle.clr_cut_rows.proofs.cut_rows.CutRows.is_near_touching.Goals as goal

pub returns-then-old : goal.returns-then-old
returns-then-old g c = λ row are.
    let P = MayTouch c.args.self.now.aim c.args.self.now.book.now c.args.rule in
    let s = setting_in g.V.RowView.content c.args.self.now in
    first_told c.any_may_touch-old.result c.any_may_touch-new.result c.if-old.true
    (near_told P s c.args.rule row c.args.near.now c.any_may_touch-old.result c.any_may_touch-new.result are
    (subst (λ (cells : List CellId). Decides c.any_may_touch-old.result (HasAmong P s false cells)) c.as_slice.ensures.value c.any_may_touch-old.ensures)
    (subst (λ (cells : List CellId). Decides c.any_may_touch-new.result (HasAmong P s true cells)) c.as_slice-2.ensures.value c.any_may_touch-new.ensures))

pub returns-else-old : goal.returns-else-old
returns-else-old g c = λ row are.
    let P = MayTouch c.args.self.now.aim c.args.self.now.book.now c.args.rule in
    let s = setting_in g.V.RowView.content c.args.self.now in
    second_told c.any_may_touch-old.result c.any_may_touch-new.result c.if-old.false
    (near_told P s c.args.rule row c.args.near.now c.any_may_touch-old.result c.any_may_touch-new.result are
    (subst (λ (cells : List CellId). Decides c.any_may_touch-old.result (HasAmong P s false cells)) c.as_slice.ensures.value c.any_may_touch-old.ensures)
    (subst (λ (cells : List CellId). Decides c.any_may_touch-new.result (HasAmong P s true cells)) c.as_slice-2.ensures.value c.any_may_touch-new.ensures))
