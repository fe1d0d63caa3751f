use Rattle.std.proofs.Common.{◌≡◌, ◌∙◌, ◌++◌, ◌<◌, ◌≤◌, ap, arith, false, get_or, length, refl, subst, true}
use Rattle.std.specs.List.{filter}
use Rattle.clr_order_knots.specs.Members.{Tells, is_concerned, needs_at}
use Rattle.clr_order_knots.specs.Places.{as_wanted, passes_at, reaches}
use Rattle.clr_order_knots.proofs.Gathering.{absorbs, none_reached}
use Rattle.clr_order_knots.proofs.knots.absorb.Goals as goal

pub returns-then-len : goal.returns-then-len
returns-then-len c =
    let needs = c.args.needs.now in
    let tells = subst (λ xs. Tells c.in_ok-table.table.items (is_concerned (needs_at needs xs))) c.as_slice.ensures.value c.in_ok-table.ensures in
    let longer : length c.args.outside.now.items ≤ length c.in_ok-rest.rest.items = omega (arith, c.in_ok-rest.rest.ok.0, c.args.outside.now.ok.0) in (
      refl,
      refl,
      none_reached needs c.in_ok-table.table.items c.args.inside.now.items c.args.outside.now.items tells c.in_ok-rest.rest.items
          (c.in_ok-rest.ensures ∙ (λ i. filter (passes_at needs (λ need. as_wanted false (reaches (λ m. get_or (c.as_slice-3.ensures.value i) m false) need)))
          (c.as_slice-2.ensures.value i))) longer,
    )

pub returns : goal.returns
returns c =
    let needs = c.args.needs.now in
    let tells = subst (λ xs. Tells c.in_ok-table.table.items (is_concerned (needs_at needs xs))) c.as_slice.ensures.value c.in_ok-table.ensures in
    let less : length c.in_ok-rest.rest.items < length c.args.outside.now.items = omega (arith, c.in_ok-rest.rest.ok.0, c.args.outside.now.ok.0) in
    absorbs needs c.in_ok-table.table.items c.args.inside.now.items c.args.outside.now.items tells c.in_ok-rest.rest.items c.in_ok-touching.touching.items
    c.extend_from_slice.new.self.items
    (c.in_ok-rest.ensures ∙ (λ i. filter (passes_at needs (λ need. as_wanted false (reaches (λ m. get_or (c.as_slice-3.ensures.value i) m false) need)))
    (c.as_slice-2.ensures.value i)))
    (c.in_ok-touching.ensures ∙ (λ i. filter (passes_at needs (λ need. as_wanted true (reaches (λ m. get_or (c.as_slice-5.ensures.value i) m false) need)))
    (c.as_slice-4.ensures.value i)))
    (c.in_ok-extend_from_slice.ensures.items ∙ ap (λ xs. c.args.inside.now.items ++ xs) c.as_slice-6.ensures.value) less
