use Rattle.std.proofs.Common.{Contains, sym, subst, ◌∙◌}
use Rattle.std.specs.Cmp.{Equal-is}
use Rattle.std.specs.List.Sorted.{IsStrictlySortedBy}
use Rattle.std.proofs.lemmas.List.Filters.{dedup_is}
use Rattle.std.proofs.lemmas.List.Kept.{IsStrictlySortedBy-dedup, Contains-dedup, Contains-from_dedup}
use Rattle.std.proofs.lemmas.List.Sorted.{Contains-permutation, IsPermutation-sym}
use Rattle.clr_spots.proofs.sorted_lists.put_in_order.Goals as goal

pub returns-clause-ascending : goal.returns-clause-ascending
returns-clause-ascending g c =
    let once = dedup_is g.T.PartialEq.eq c.sort_unstable.new.self.items c.dedup.new.self.items c.dedup.ensures.filtered in
    subst (IsStrictlySortedBy g.T.Ord.cmp) (sym once) (IsStrictlySortedBy-dedup g.met.T.Ord.total g.met.T.Ord.matches_eq c.sort_unstable.new.self.items
    c.sort_unstable.ensures.sorted)

pub returns-clause-same : goal.returns-clause-same
returns-clause-same g c x =
    let given = c.args.list.now.items in
    let sorted = c.sort_unstable.new.self.items in
    let moved = c.sort_unstable.ensures.permutation in
    let once = dedup_is g.T.PartialEq.eq sorted c.dedup.new.self.items c.dedup.ensures.filtered in (
      λ h. Contains-permutation sorted given x (IsPermutation-sym _ _ moved) (Contains-from_dedup g.T.PartialEq.eq sorted x
          (subst (λ xs. Contains xs x) once h)),
      λ h. subst (λ xs. Contains xs x) (sym once)
          (Contains-dedup g.met.T.Eq.laws (λ a b e. c.requires a b ((Equal-is (g.T.Ord.cmp a b)).0 (sym (g.met.T.Ord.matches_eq a b) ∙ e))) sorted x
          (Contains-permutation given sorted x moved h)),
    )
