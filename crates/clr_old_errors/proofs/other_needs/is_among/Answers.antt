use Rattle.std.proofs.Common.{◌∙◌, is_ok}
use Rattle.clr_needs.proofs.TestLemmas.{found_or_not}
use Rattle.clr_rules.specs.Needs.{broken_cmp}
use Rattle.clr_rules.proofs.BrokenOrder.{broken_exact, broken_total}
use Rattle.clr_old_errors.proofs.KnownLemmas.{known_by}
use Rattle.clr_old_errors.proofs.other_needs.is_among.Goals as goal

pub returns : goal.returns
unfolding broken_cmp
returns c =
    c.is_ok.ensures.value
    ∙ known_by c.args.needs.now c.args.need.now (is_ok c.binary_search.result)
    (found_or_not broken_cmp broken_total broken_exact c.args.needs.now c.args.need.now c.binary_search.result c.requires c.binary_search.ensures.bound
    c.binary_search.ensures.position)
