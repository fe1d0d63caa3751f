use Rattle.std.proofs.Common.{◌≡◌, ◌∙◌, ◌&&◌, ◌++◌, ◌<◌, ◌≤◌, ap, arith, false, get_or, length, not, refl, subst}
use Rattle.std.specs.List.{filter}
use Rattle.clr_order_knots.specs.declared.sides.NeedSide.TheVariants as side
use Rattle.clr_order_knots.specs.Members.{AreThose, Tells, is_on, needs_at}
use Rattle.clr_order_knots.specs.Places.{keeps, passes_at}
use Rattle.clr_order_knots.proofs.Lists.{has_filtered}
use Rattle.clr_order_knots.proofs.PeeledEnds.{all_kept_places, first_told, kept_among, kept_places, last_told}
use Rattle.clr_order_knots.proofs.peeling.peel_once.Goals as goal

pub returns-then-len : goal.returns-then-len
returns-then-len c =
    let needs = c.args.needs.now in
    let places = c.args.peeled.now.left.items in
    let blocks = subst (λ xs. Tells c.in_ok-blocking.blocking.items (is_on side.Blockers (needs_at needs xs))) c.as_slice.ensures.value c.in_ok-blocking.ensures in
    let helps = subst (λ xs. Tells c.in_ok-helping.helping.items (is_on side.Helpers (needs_at needs xs))) c.as_slice-2.ensures.value c.in_ok-helping.ensures in
    let longer : length places ≤ length c.in_ok-left.left.items = omega (arith, c.in_ok-left.left.ok.0, c.args.peeled.now.left.ok.0) in (
      refl,
      all_kept_places needs c.in_ok-blocking.blocking.items c.in_ok-helping.helping.items places blocks helps c.in_ok-left.left.items
          (c.in_ok-left.ensures ∙ (λ i. filter (passes_at needs (keeps (λ m. get_or (c.as_slice-4.ensures.value i) m false)
          (λ m. get_or (c.as_slice-5.ensures.value i) m false))) (c.as_slice-3.ensures.value i))) longer,
    )

pub returns : goal.returns
returns c =
    let needs = c.args.needs.now in
    let count = c.args.count in
    let places = c.args.peeled.now.left.items in
    let blocking = c.in_ok-blocking.blocking.items in
    let helping = c.in_ok-helping.helping.items in
    let blocks = subst (λ xs. Tells blocking (is_on side.Blockers (needs_at needs xs))) c.as_slice.ensures.value c.in_ok-blocking.ensures in
    let helps = subst (λ xs. Tells helping (is_on side.Helpers (needs_at needs xs))) c.as_slice-2.ensures.value c.in_ok-helping.ensures in
    let less : length c.in_ok-left.left.items < length places = omega (arith, c.in_ok-left.left.ok.0, c.args.peeled.now.left.ok.0) in
    let left_is : c.in_ok-left.left.items ≡ filter (passes_at needs (keeps (λ m. get_or blocking m false) (λ m. get_or helping m false))) places =
    c.in_ok-left.ensures ∙ (λ i. filter (passes_at needs (keeps (λ m. get_or (c.as_slice-4.ensures.value i) m false)
    (λ m. get_or (c.as_slice-5.ensures.value i) m false))) (c.as_slice-3.ensures.value i)) in
    record {
      first = c.in_ok-first.first.items;
      last = c.in_ok-last.last.items;
      are_first = first_told needs blocking helping places blocks helps count c.in_ok-first.first.items
          (subst (λ xs. AreThose count (λ m. get_or xs m false && not (get_or blocking m false)) c.in_ok-first.first.items) c.as_slice-6.ensures.value
          (subst (λ ys. AreThose count (λ m. get_or c.as_slice-6.result.now m false && not (get_or ys m false)) c.in_ok-first.first.items)
          c.as_slice-7.ensures.value c.in_ok-first.ensures));
      are_last = last_told needs blocking helping places blocks helps count c.in_ok-last.last.items
          (subst (λ xs. AreThose count (λ m. get_or xs m false && not (get_or helping m false)) c.in_ok-last.last.items) c.as_slice-8.ensures.value
          (subst (λ ys. AreThose count (λ m. get_or c.as_slice-8.result.now m false && not (get_or ys m false)) c.in_ok-last.last.items)
          c.as_slice-9.ensures.value c.in_ok-last.ensures));
      firsts = c.in_ok-extend_from_slice.ensures.items ∙ ap (λ xs. c.args.peeled.now.firsts.items ++ xs) c.as_slice-10.ensures.value;
      lasts = c.in_ok-extend_from_slice-2.ensures.items ∙ ap (λ xs. c.in_ok-last.last.items ++ xs) c.as_slice-11.ensures.value;
      left = kept_places needs blocking helping places blocks helps c.in_ok-left.left.items left_is;
      fewer = less;
      among = kept_among needs blocking helping places blocks helps c.in_ok-left.left.items left_is;
    }
