use Rattle.clr_steps.specs.Names.{same_name}
use Rattle.clr_merge_sets.proofs.NameLemmas.{NonePasses}
use Rattle.clr_merge_sets.proofs.precedence_pairs.position_of.Given as goal

-- none of the members so far has the name
abbrev pub invariant-loop-position : goal.invariant-loop-position
invariant-loop-position l = NonePasses (λ n. same_name n l.name) l.members l.position
