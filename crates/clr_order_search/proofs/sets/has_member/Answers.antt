use Rattle.std.proofs.Common.{◌<◌, ◌^◌, ◌∙◌, rules, sym}
use Rattle.std.proofs.lemmas.Bool.{le-ltb}
use Rattle.clr_order_search.proofs.BitLemmas.{none_above}
use Rattle.clr_order_search.proofs.sets.has_member.Goals as goal

pub returns-else-member-lt64 : goal.returns-else-member-lt64
returns-else-member-lt64 c =
    let fits : c.args.set < 2 ^ 64 = search rules in
    le-ltb c.args.member 64 c.if-member-lt64.false ∙ sym (none_above c.args.set c.args.member fits c.if-member-lt64.false)
