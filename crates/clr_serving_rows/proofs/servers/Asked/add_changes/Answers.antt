use Rattle.std.proofs.Common.{◌≡◌, ◌++◌, ◌∙◌, List, true, false, not, sym, ap}
use Rattle.std.specs.Bool.{beq}
use Rattle.std.specs.Map.Iter.{deref_pair}
use Rattle.std.proofs.lemmas.Map.Iter.{rest_more}
use Rattle.clr_rows.specs.declared.cells.CellId.{CellId}
use Rattle.clr_rows.specs.declared.cells.Change.{Change}
use Rattle.clr_serving_rows.specs.declared.servers.ServerChange.{ServerChange}
use Rattle.clr_serving_rows.specs.Servers.{changes_among, is_served, server_change, subjects_of, turns}
use Rattle.clr_serving_rows.proofs.ServerLemmas.{is_added, is_passed}
use Rattle.clr_serving_rows.proofs.servers.Asked.add_changes.Goals as goal

pub loop-cell-preserved-in-Continue-1 : goal.loop-cell-preserved-in-Continue-1
loop-cell-preserved-in-Continue-1 c =
    let o = c.args.office.now in
    let need = c.args.self.now.need.now in
    let subjects = subjects_of c.args.self.now in
    let left = c.next.new.self in
    let rest = rest_more deref_pair c.loop-cell.cell-iterator left c.next.result (c.in-Some.cell, c.in-Some.change) c.in-Some.is c.next.ensures.steps in
    let served = is_served o need subjects c.in-Some.cell.now in
    let before = c.is_served_by-leaves.ensures ∙ ap served c.as_ref.ensures.value in
    let after = c.is_served_by.ensures ∙ ap served c.as_ref-in-loop-cell.ensures.value in
    let e : CellId × Change = (c.in-Some.cell.now, c.in-Some.change.now) in
    let turned : turns o need subjects e ≡ true = sym (λ i. not (beq (before i) (after i))) ∙ c.if-leaves-is_served_by.true in
    let found : ServerChange = record { member = c.args.member; cell = e.0; leaves = c.is_served_by-leaves.result } in
    let is : found ≡ server_change o need subjects c.args.member e = λ i. record { member = c.args.member; cell = e.0; leaves = before i } in
    ap (λ (found : List ServerChange). found ++ changes_among o need subjects c.args.member left) c.in_ok-push.ensures.items
    ∙ (is_added o need subjects c.args.member c.loop-cell.found.items e found left c.loop-cell.cell-iterator rest turned is ∙ c.loop-cell.invariant)

pub loop-cell-preserved : goal.loop-cell-preserved
loop-cell-preserved c =
    let o = c.args.office.now in
    let need = c.args.self.now.need.now in
    let subjects = subjects_of c.args.self.now in
    let left = c.next.new.self in
    let rest = rest_more deref_pair c.loop-cell.cell-iterator left c.next.result (c.in-Some.cell, c.in-Some.change) c.in-Some.is c.next.ensures.steps in
    let served = is_served o need subjects c.in-Some.cell.now in
    let before = c.is_served_by-leaves.ensures ∙ ap served c.as_ref.ensures.value in
    let after = c.is_served_by.ensures ∙ ap served c.as_ref-in-loop-cell.ensures.value in
    let e : CellId × Change = (c.in-Some.cell.now, c.in-Some.change.now) in
    let stays : turns o need subjects e ≡ false = sym (λ i. not (beq (before i) (after i))) ∙ c.if-leaves-is_served_by.false in
    ap (λ (found : List ServerChange). c.loop-cell.found.items ++ found) (is_passed o need subjects c.args.member e left c.loop-cell.cell-iterator rest stays)
    ∙ c.loop-cell.invariant
