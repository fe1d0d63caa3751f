use Rattle.clr_rules.proofs.NewlyBroken.{all_where_held}
use Rattle.clr_rules.proofs.laws.newly_broken_needs_are_all_where_rules_held.Goals as goal

pub returns : goal.returns
returns c = all_where_held
