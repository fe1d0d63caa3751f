use Rattle.std.proofs.Common.{List, false, subst, true}
use Rattle.std.specs.Prelude.{Decides}
use Rattle.clr_rows.specs.declared.cells.CellId.{CellId}
use Rattle.clr_reach.specs.Found.{MayBeTouched}
use Rattle.clr_cut_rows.specs.Searches.{HasAmong, setting_in}
use Rattle.clr_cut_rows.proofs.SearchLemmas.{first_told, near_told, second_told}
use Rattle.clr_cut_rows.proofs.cut_rows.CutRows.is_near_touched.Goals as goal

pub returns-then-old : goal.returns-then-old
returns-then-old g c = λ row are.
    let s = setting_in g.V.RowView.content c.args.self.now in
    let P = MayBeTouched c.args.self.now.aim s c.args.rule in
    first_told c.in_ok-old.old c.in_ok-new.new c.if-old.true
    (near_told P s c.args.rule row c.args.near.now c.in_ok-old.old c.in_ok-new.new are
    (subst (λ (cells : List CellId). Decides c.in_ok-old.old (HasAmong P s false cells)) c.as_slice.ensures.value c.in_ok-old.ensures)
    (subst (λ (cells : List CellId). Decides c.in_ok-new.new (HasAmong P s true cells)) c.as_slice-2.ensures.value c.in_ok-new.ensures))

pub returns-else-old : goal.returns-else-old
returns-else-old g c = λ row are.
    let s = setting_in g.V.RowView.content c.args.self.now in
    let P = MayBeTouched c.args.self.now.aim s c.args.rule in
    second_told c.in_ok-old.old c.in_ok-new.new c.if-old.false
    (near_told P s c.args.rule row c.args.near.now c.in_ok-old.old c.in_ok-new.new are
    (subst (λ (cells : List CellId). Decides c.in_ok-old.old (HasAmong P s false cells)) c.as_slice.ensures.value c.in_ok-old.ensures)
    (subst (λ (cells : List CellId). Decides c.in_ok-new.new (HasAmong P s true cells)) c.as_slice-2.ensures.value c.in_ok-new.ensures))
