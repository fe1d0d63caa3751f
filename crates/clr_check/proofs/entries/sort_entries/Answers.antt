use Rattle.std.proofs.Common.{Contains, rules, subst, sym}
use Rattle.std.proofs.lemmas.List.Sorted.{Contains-permutation, IsPermutation-sym, answers_always}
use Rattle.clr_cert.specs.declared.certificates.Entry.{Entry}
use Rattle.clr_check.proofs.entries.sort_entries.Goals as goal

pub returns-clause-same : goal.returns-clause-same
returns-clause-same c e =
    let moved = c.sort_unstable_by_key.ensures.permutation in (
      λ h. subst (λ xs. Contains xs e) c.in_ok-list.ensures.items (Contains-permutation _ _ e (IsPermutation-sym _ _ moved) h),
      λ h. Contains-permutation _ _ e moved (subst (λ xs. Contains xs e) (sym c.in_ok-list.ensures.items) h),
    )

pub returns-clause-rising : goal.returns-clause-rising
returns-clause-rising c = c.sort_unstable_by_key.ensures.sorted (λ (e : Entry). e.need) (answers_always _ _ _ (λ f a r g h. search rules))
