use Rattle.std.proofs.Common.{not}
use Rattle.clr_steps.specs.Offices.{stands}
use Rattle.clr_merge_sets.proofs.NameLemmas.{NonePasses}
use Rattle.clr_merge_sets.proofs.name_tests.first_missing.Given as goal

-- each name so far is LIVE's or a workspace's
abbrev pub invariant-loop-position : goal.invariant-loop-position
invariant-loop-position g l = NonePasses (λ name. not (stands l.office name)) (g.N.NameList.names l.members) l.position
