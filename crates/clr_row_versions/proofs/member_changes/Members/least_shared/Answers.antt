use Rattle.std.proofs.Common.{◌≤◌, ◌+◌, ◌∙◌, List, Some, length, subst, sym, ap}
use Rattle.clr_rows.specs.declared.cells.CellId.{CellId}
use Rattle.clr_row_versions.proofs.Searches.{sets_of}
use Rattle.clr_row_versions.proofs.SharedCells.{IsLeastBelow, IsReadAt, apart_step, least_of_all, none_yet, shared_step}
use Rattle.clr_row_versions.proofs.member_changes.Members.least_shared.Goals as goal
use Rattle.clr_row_versions.proofs.member_changes.Members.least_shared.Goals.{in-Some, in_default}

pub loop-cell-init : goal.loop-cell-init
loop-cell-init c = none_yet (sets_of c.args.self.now.sets.items) c.args.self.now.cells.items

pub loop-cell-preserved : goal.loop-cell-preserved
loop-cell-preserved c =
    let sets = sets_of c.args.self.now.sets.items in
    let cells = c.args.self.now.cells.items in
    let k = c.loop-cell.cell-index in
    let read = c.deref-cell-items.result.now in
    let is : IsReadAt sets cells read k = record { same = c.deref-cell-items.ensures.value; within = c.loop-cell-test.true } in
    elim c.match-first_two.branch [
      | in-Some w ↦ subst (IsLeastBelow sets cells (k + 1)) (ap Some (sym w.lesser.ensures) ∙ sym w.least-is)
          (shared_step sets cells read k _ c.first_two.result w.in-Some.first w.in-Some.second c.loop-cell.least is c.first_two.ensures w.in-Some.is
          c.loop-cell.invariant)
      | in_default w ↦ subst (IsLeastBelow sets cells (k + 1)) (sym w.least-is)
          (apart_step sets cells read k _ c.first_two.result c.loop-cell.least is c.first_two.ensures w.in_default.is c.loop-cell.invariant)
    ]

pub returns : goal.returns
returns c =
    let members = c.args.self.now in
    let past = subst (λ (qs : List CellId). length qs ≤ c.loop-cell.cell-index) c.deref-cell-items.ensures.value c.loop-cell-test.false in
    least_of_all (sets_of members.sets.items) members.cells.items c.loop-cell.cell-index c.loop-cell.least members.all past c.loop-cell.invariant
