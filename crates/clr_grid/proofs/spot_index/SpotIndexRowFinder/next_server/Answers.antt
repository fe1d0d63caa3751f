use Rattle.std.proofs.Common.{◌≡◌, true, refl, subst, sym, List}
use Rattle.std.specs.Prelude.{Contains}
use Rattle.clr_finders.specs.NextCells.{IsNextOf}
use Rattle.clr_finders.specs.Sharing.{found_cells}
use Rattle.clr_finders.proofs.NextLemmas.{found_met, next_as}
use Rattle.clr_grid.specs.Filing.{is_filed_under}
use Rattle.clr_finders.specs.RowMaps.{FiledRows}
use Rattle.clr_grid.specs.NextCells.{IsServerFoundFor}
use Rattle.clr_grid.specs.declared.rule_index.RuleIndex.{RuleIndex}
use Rattle.clr_grid.proofs.IndexLemmas.{met_holds}
use Rattle.clr_grid.proofs.NextLemmas.{next_of_all}
use Rattle.clr_grid.proofs.spot_index.SpotIndexRowFinder.next_server.Goals as goal

pub returns-then-spots : goal.returns-then-spots
returns-then-spots c = next_of_all c.self.inside.rows c.args.self.now c.args.spots.now c.args.rule c.args.after c.next_cell.result c.self.view_is
    c.next_cell.ensures

pub returns : goal.returns
returns c =
    let rows = c.self.inside.rows in
    let indexes = c.self.inside.rules.items in
    let x = c.args.spots.now in
    next_as c.args.after (IsServerFoundFor indexes c.args.rule x) (Contains (found_cells true c.args.self.now.settled c.args.rule x)) c.next_server_near.result
    (λ q found. met_holds (IsServerFoundFor indexes c.args.rule x) rows indexes true x c.args.rule c.self.invariant.filed c.if-spots.false
    (λ serves k q side looked filed. (k, looked, subst (λ b. is_filed_under indexes c.args.rule b k q ≡ true) (side refl) filed)) q
    (found_met true rows.settled c.args.rule x q (subst (λ (r : FiledRows). Contains (found_cells true r.settled c.args.rule x) q) (sym c.self.view_is) found)))
    (subst (λ (xs : List RuleIndex). IsNextOf (IsServerFoundFor xs c.args.rule x) c.args.after c.next_server_near.result) c.as_slice.ensures.value
    c.next_server_near.ensures)
