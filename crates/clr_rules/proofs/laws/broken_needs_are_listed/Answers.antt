use Rattle.clr_rules.proofs.BrokenLemmas.{lists_broken}
use Rattle.clr_rules.proofs.laws.broken_needs_are_listed.Goals as goal

pub returns : goal.returns
returns c = lists_broken
