use Rattle.std.proofs.Common.{subst, sym}
use Rattle.std.specs.List.Sorted.{IsStrictlySortedBy}
use Rattle.clr_rules.specs.Needs.{broken_cmp}
use Rattle.clr_engine.specs.BrokenNow.{AreBrokenNow}
use Rattle.clr_desk_errors.proofs.MendedLemmas.{are_mended}
use Rattle.clr_desk_errors.proofs.mended.mended_needs.Goals as goal

pub needs_beside-requires : goal.needs_beside-requires
unfolding broken_cmp
needs_beside-requires c = subst (IsStrictlySortedBy broken_cmp) (sym c.as_slice.ensures.value) c.in_ok-needs.ensures.ascending

pub returns : goal.returns
returns c =
    let o = c.args.draft.now in
    let are = subst (AreBrokenNow o) (sym c.as_slice.ensures.value) c.in_ok-needs.ensures in
    are_mended o c.args.known.now c.as_slice.result.now c.in_ok-list.list.items are c.in_ok-list.ensures.ascending c.in_ok-list.ensures.exactly
