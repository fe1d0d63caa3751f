use Rattle.std.proofs.Common.{◌≡◌, ◌∙◌, ◌++◌, List, Bool, true, is_some, append-nil, ap, filter, rules, subst, sym}
use Rattle.std.specs.BTreeMap.{keys}
use Rattle.std.specs.FinMap as finite
use Rattle.clr_rows.specs.declared.cells.CellId.{CellId}
use Rattle.clr_finders.specs.Sharing.{is_met_at}
use Rattle.clr_finders.specs.RowMaps.{FiledRows}
use Rattle.clr_finders.proofs.FoundLemmas.{found_is, met_there}
use Rattle.clr_finders.proofs.MapLemmas.{cell_listed}
use Rattle.clr_finders.proofs.row_maps.RowMap.find_all.Goals as goal

pub returns : goal.returns
returns c =
    let test : CellId → Bool = λ q. is_met_at c.args.servers c.args.spots.now c.args.rule (finite.get c.args.self.now.settled q) in
    let cells : List CellId = keys c.self.inside.settled in
    let all : c.into_iter-cell-iterator.result ≡ cells = search rules in
    sym (append-nil c.loop-cell.list.items) ∙ ap (λ (xs : List CellId). c.loop-cell.list.items ++ filter test xs) (sym c.in-None.ensures.steps.0)
    ∙ c.loop-cell.invariant ∙ ap (λ (xs : List CellId). filter test xs) all
    ∙ found_is c.args.servers c.args.self.now.settled c.args.rule c.args.spots.now cells c.keys-cell-items.ensures.ordered
    (λ q met. cell_listed c.self.inside.settled.entries q (subst (λ (r : FiledRows). is_some (finite.get r.settled q) ≡ true) (sym c.self.view_is)
    (met_there c.args.servers c.args.spots.now c.args.rule (finite.get c.args.self.now.settled q) met)))
