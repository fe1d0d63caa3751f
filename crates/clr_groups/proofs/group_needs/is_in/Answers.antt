use Rattle.std.proofs.Common.{Contains, subst, sym}
use Rattle.std.specs.Ordering.{nat_cmp}
use Rattle.std.proofs.lemmas.Cmp.{nat_cmp_total}
use Rattle.std.proofs.lemmas.Map.Lookups.{exact_unsigned}
use Rattle.clr_needs.specs.Tests.{IsTestOf}
use Rattle.clr_needs.proofs.TestLemmas.{found_or_not}
use Rattle.clr_groups.proofs.group_needs.is_in.Goals as goal

pub returns : goal.returns
returns c =
    subst (λ answer. IsTestOf answer (Contains c.args.group.now c.args.member)) (sym c.is_ok.ensures.value)
    (found_or_not nat_cmp nat_cmp_total exact_unsigned c.args.group.now c.args.member c.binary_search.result c.requires c.binary_search.ensures.bound
    c.binary_search.ensures.position)
