use Rattle.std.proofs.Common.{◌≡◌, ◌++◌, drop, flat_map}
use Rattle.std.specs.List.{enumerate_from}
use Rattle.std.specs.Prelude.{Some}
use Rattle.clr_serving_rows.specs.Servers.{changes_by, changes_of_member, subjects_of}
use Rattle.clr_serving_rows.proofs.servers.Asked.changes.Given as goal

-- the changes so far, with those of the members that are left, are all of them
abbrev pub invariant-loop-member : goal.invariant-loop-member
invariant-loop-member l =
    l.found.items ++ flat_map (changes_of_member l.office l.self.need.now (subjects_of l.self)) (enumerate_from l.member (drop l.member l.sets))
    ≡ changes_by l.office l.self.need.now l.sets (Some (subjects_of l.self))
