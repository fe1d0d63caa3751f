use Rattle.std.proofs.Common.{Contains, subst, sym}
use Rattle.clr_needs.specs.Orders.{need_cmp}
use Rattle.clr_needs.proofs.NeedOrder.{need_exact, need_total}
use Rattle.clr_needs.specs.Tests.{IsTestOf}
use Rattle.clr_needs.proofs.TestLemmas.{found_or_not}
use Rattle.clr_clash_helpers.proofs.touching.is_among.Goals as goal

pub returns : goal.returns
returns c =
    subst (λ answer. IsTestOf answer (Contains c.args.needs.now c.args.need.now)) (sym c.is_ok.ensures.value)
    (found_or_not need_cmp need_total need_exact c.args.needs.now c.args.need.now c.binary_search.result c.requires c.binary_search.ensures.bound
    c.binary_search.ensures.position)
