use Rattle.clr_merge_sets.proofs.PrecedenceLemmas.{one_pair, silent_pair}
use Rattle.clr_merge_sets.proofs.precedence_pairs.add_pair.Goals as goal

pub returns-in_default : goal.returns-in_default
returns-in_default c j k = silent_pair c.args.members.now j k c.args.pairs.now.items _ (c.in_default.ensures j k)

pub returns : goal.returns
returns c j k = one_pair c.args.members.now j k c.args.pairs.now.items _ c.in-Some.pair _ c.in_ok-push.ensures.items (c.in-Some.ensures j k)
