use Rattle.std.proofs.Common.{◌<◌, ◌^◌, rules}
use Rattle.clr_order_search.proofs.BitLemmas.{cleared_less, cleared_others}
use Rattle.clr_order_search.proofs.sets.without_member.Goals as goal

pub returns-clause-less : goal.returns-clause-less
returns-clause-less c =
    let fits : c.args.set < 2 ^ 64 = search rules in
    cleared_less c.args.set c.args.member c.requires.few fits c.requires.there

pub returns-clause-others : goal.returns-clause-others
returns-clause-others c =
    let fits : c.args.set < 2 ^ 64 = search rules in
    cleared_others c.args.set c.args.member c.requires.few fits c.requires.there
