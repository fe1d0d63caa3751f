use Rattle.std.proofs.Common.{◌≡◌, ◌++◌}
use Rattle.clr_serving_rows.specs.Servers.{changes_among, changes_of_member, subjects_of}
use Rattle.clr_serving_rows.proofs.servers.Asked.add_changes.Given as goal

-- the changes so far, with those of the cells that are left, are all of the member
abbrev pub invariant-loop-cell : goal.invariant-loop-cell
invariant-loop-cell l =
    l.found.items ++ changes_among l.office l.self.need.now (subjects_of l.self) l.member l.cell-iterator
    ≡ l.initial.found.items ++ changes_of_member l.office l.self.need.now (subjects_of l.self) (l.member, l.set)
