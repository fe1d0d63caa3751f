use Rattle.clr_rules.proofs.NewlyBroken.{lists_newly_broken}
use Rattle.clr_rules.proofs.laws.newly_broken_needs_are_listed.Goals as goal

pub returns : goal.returns
returns c = lists_newly_broken
