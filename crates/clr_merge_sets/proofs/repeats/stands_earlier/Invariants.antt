use Rattle.std.proofs.Common.{◌≡◌, false, take}
use Rattle.clr_steps.specs.Names.{has}
use Rattle.clr_merge_sets.proofs.repeats.stands_earlier.Given as goal

-- none of the names so far is the same
abbrev pub invariant-loop-earlier : goal.invariant-loop-earlier
invariant-loop-earlier g l = has (take l.earlier (g.N.NameList.names l.names)) l.name ≡ false
