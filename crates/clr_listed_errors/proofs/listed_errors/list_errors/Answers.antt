use Rattle.std.proofs.Common.{◌↔◌, ◌∙◌, ap₂, Contains, List, subst, sym}
use Rattle.std.specs.List.Sorted.{IsStrictlySortedBy}
use Rattle.clr_rows.specs.Schemas.{FitsSchema}
use Rattle.clr_rules.specs.declared.needs.Broken.{Broken}
use Rattle.clr_rules.specs.Books.{FitsBook}
use Rattle.clr_rules.specs.Needs.{broken_cmp, broken_needs}
use Rattle.clr_rules.proofs.BrokenOrder.{broken_exact}
use Rattle.clr_listed_errors.proofs.ListedLemmas.{all_beside}
use Rattle.clr_listed_errors.proofs.listed_errors.list_errors.Goals as goal

pub put_in_order-requires : goal.put_in_order-requires
unfolding broken_cmp
put_in_order-requires c = broken_exact

pub audit-requires : goal.audit-requires
audit-requires c =
    let o = c.args.office.now in
    let fit = c.book.ensures.admitted.fit in
    record {
      tables = o.schema;
      book = subst (FitsBook o.schema) (sym c.book.ensures.value) fit.book;
      rows = subst (FitsSchema o.schema) (sym c.live.ensures.value) fit.rows.live;
    }

pub list_beside-requires : goal.list_beside-requires
unfolding broken_cmp
list_beside-requires c = subst (IsStrictlySortedBy broken_cmp) (sym c.as_slice.ensures.value) c.put_in_order.ensures.ascending

pub returns : goal.returns
returns c =
    let known = c.args.known.now in
    let same : (x : Broken) → Contains c.as_slice.result.now x ↔ Contains known x =
    λ x. subst (λ (list : List Broken). Contains c.as_slice.result.now x ↔ Contains list x) c.in_ok-in_order.ensures.items
    (subst (λ (list : List Broken). Contains list x ↔ Contains c.in_ok-in_order.in_order.items x) (sym c.as_slice.ensures.value)
    (c.put_in_order.ensures.same x)) in
    let listed = c.in_ok-needs.ensures.list ∙ ap₂ broken_needs c.book.ensures.value c.live.ensures.value in
    record {
      needs = c.in_ok-errors.ensures.needs ∙ c.as_slice-2.ensures.value ∙ listed;
      told = all_beside c.args.office.now c.as_slice.result.now known same c.in_ok-errors.errors.items c.in_ok-errors.ensures.told;
    }
