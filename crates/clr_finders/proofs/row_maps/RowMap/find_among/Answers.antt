use Rattle.std.proofs.Common.{◌∙◌, ap, sym, filter, true, false, Bool, append-nil}
use Rattle.std.proofs.lemmas.List.{take_all}
use Rattle.std.specs.FinMap as finite
use Rattle.clr_rows.specs.declared.cells.CellId.{CellId}
use Rattle.clr_finders.specs.Sharing.{is_met_at}
use Rattle.clr_finders.proofs.FoundLemmas.{kept_more, found_is}
use Rattle.clr_finders.proofs.row_maps.RowMap.find_among.Goals as goal
use Rattle.clr_finders.proofs.row_maps.RowMap.find_among.Goals.{then-is_found+in_ok-push, else-is_found}

pub loop-cell-preserved : goal.loop-cell-preserved
loop-cell-preserved c =
    let cells = c.args.cells.now in
    let test : CellId → Bool = λ q. is_met_at c.args.servers c.args.spots.now c.args.rule (finite.get c.args.self.now.settled q) in
    let k = c.loop-cell.cell-index in
    elim c.if-is_found.branch [
      | then-is_found+in_ok-push w ↦ kept_more test cells k true c.loop-cell.list.items c.if-is_found.list.items _ c.loop-cell-test.true (sym w.if-is_found.true
          ∙ c.is_found.ensures) (ap (λ v. v.items) w.list-is ∙ w.in_ok-push.ensures.items) c.loop-cell.invariant
      | else-is_found w ↦ kept_more test cells k false c.loop-cell.list.items c.if-is_found.list.items _ c.loop-cell-test.true (sym w.if-is_found.false
          ∙ c.is_found.ensures) (ap (λ v. v.items) w.list-is ∙ sym (append-nil _)) c.loop-cell.invariant
    ]

pub returns : goal.returns
returns c =
    let test : CellId → Bool = λ q. is_met_at c.args.servers c.args.spots.now c.args.rule (finite.get c.args.self.now.settled q) in
    c.loop-cell.invariant ∙ ap (filter test) (take_all c.loop-cell.cell-index c.args.cells.now c.loop-cell-test.false)
    ∙ found_is c.args.servers c.args.self.now.settled c.args.rule c.args.spots.now c.args.cells.now c.requires.rising c.requires.all
