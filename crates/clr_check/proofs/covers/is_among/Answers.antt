use Rattle.std.proofs.Common.{Contains, subst, sym}
use Rattle.clr_needs.proofs.NeedOrder.{version_exact}
use Rattle.clr_needs.proofs.VersionOrder.{version_total}
use Rattle.clr_needs.specs.Orders.{version_cmp}
use Rattle.clr_needs.specs.Tests.{IsTestOf}
use Rattle.clr_needs.proofs.TestLemmas.{found_or_not}
use Rattle.clr_check.proofs.covers.is_among.Goals as goal

pub returns : goal.returns
returns c =
    subst (λ told. IsTestOf told (Contains c.args.versions.now c.args.id)) (sym c.is_ok.ensures.value)
    (found_or_not version_cmp version_total version_exact c.args.versions.now c.args.id c.binary_search.result c.requires c.binary_search.ensures.bound
    c.binary_search.ensures.position)
