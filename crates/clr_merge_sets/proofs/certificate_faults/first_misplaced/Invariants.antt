use Rattle.std.proofs.Common.{not}
use Rattle.clr_steps.specs.Names.{same_name}
use Rattle.clr_ordered_needs.specs.Turns.{is_earlier}
use Rattle.clr_merge_sets.specs.Certificates.{pairs_in}
use Rattle.clr_merge_sets.proofs.NameLemmas.{NonePasses}
use Rattle.clr_merge_sets.proofs.certificate_faults.first_misplaced.Given as goal

-- of each precedence so far the earlier name stands before the later one
abbrev pub invariant-loop-position : goal.invariant-loop-position
invariant-loop-position l = NonePasses (λ p. not (is_earlier same_name l.members p.0 p.1)) (pairs_in l.before) l.position
