use Rattle.std.proofs.Common.{not}
use Rattle.clr_clearance.specs.MergeSets.{is_child}
use Rattle.clr_merge_sets.specs.MergeSetNames.{merge_set}
use Rattle.clr_merge_sets.proofs.NameLemmas.{NonePasses}
use Rattle.clr_merge_sets.proofs.name_tests.first_stray.Given as goal

-- each name so far is that of a child of the root
abbrev pub invariant-loop-position : goal.invariant-loop-position
invariant-loop-position g l = NonePasses (λ name. not (is_child l.office (merge_set l.root (g.N.NameList.names l.members)) name)) (g.N.NameList.names l.members)
    l.position
