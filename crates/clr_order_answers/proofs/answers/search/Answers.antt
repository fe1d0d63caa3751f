use Rattle.std.proofs.Common.{◌∙◌, length, subst, sym}
use Rattle.clr_order_search.specs.Orders.{IsSearched}
use Rattle.clr_order_knots.specs.Members.{needs_at}
use Rattle.clr_order_knots.proofs.Places.{within_at}
use Rattle.clr_order_answers.specs.Renumbering.{AreNumberedBy, AreRenumbered, members_at}
use Rattle.clr_order_answers.specs.Searching.{IsKnotOrder}
use Rattle.clr_order_answers.proofs.Found.{are_numbered, found_helps, found_once, found_those, none_found}
use Rattle.clr_order_answers.proofs.answers.search.Goals as goal

pub renumber_all-requires-clause-among : goal.renumber_all-requires-clause-among
renumber_all-requires-clause-among c =
    let needs = c.args.needs.now in
    let knot = c.args.knot.now in
    let is = c.requires.knot in
    subst (λ l. AreNumberedBy l (needs_at needs c.as_slice.result.now)) (sym c.as_slice-members.ensures.value)
    (subst (λ ps. AreNumberedBy knot.members.items (needs_at needs ps)) (sym c.as_slice.ensures.value)
    (are_numbered (needs_at needs knot.inside.items) c.args.count (within_at needs c.args.count c.requires.within knot.inside.items) knot.members.items
    is.members is.below is.once))

pub returns-in-Found : goal.returns-in-Found
returns-in-Found c =
    let needs = c.args.needs.now in
    let count = c.args.count in
    let knot = c.args.knot.now in
    let is = c.requires.knot in
    let ins = needs_at needs knot.inside.items in
    let members = knot.members.items in
    let news = c.in_ok-renumbered.renumbered.items in
    let within = within_at needs count c.requires.within knot.inside.items in
    let renumbered = subst (λ l. AreRenumbered l ins news) c.as_slice-members.ensures.value
    (subst (λ ps. AreRenumbered c.as_slice-members.result.now (needs_at needs ps) news) c.as_slice.ensures.value c.in_ok-renumbered.ensures) in
    let told = subst (λ ns. IsSearched ns (length c.as_slice-members.result.now) c.in_ok-places.field-0) c.as_slice-2.ensures.value c.in_ok-places.ensures in
    let counted = subst (λ l. IsSearched news (length l) c.in_ok-places.field-0) c.as_slice-members.ensures.value told in
    let searched = subst (IsSearched news (length members)) c.in-Found.is counted in
    let places = c.in-Found.places.items in
    let working = searched.1.working in
    subst (IsKnotOrder needs knot)
    (sym (c.in_ok-order-in-Found.ensures ∙ (λ i. members_at (c.as_slice-members.ensures.value i) (c.as_slice-in-Found.ensures.value i)))) (record {
      those = found_those ins count within members is.members is.below is.once news renumbered places working;
      once = found_once ins count within members is.members is.below is.once news renumbered places working;
      helped = found_helps ins count within members is.members is.below is.once news renumbered places working;
    })

pub returns-in-NoneWorks : goal.returns-in-NoneWorks
returns-in-NoneWorks c =
    let needs = c.args.needs.now in
    let count = c.args.count in
    let knot = c.args.knot.now in
    let is = c.requires.knot in
    let ins = needs_at needs knot.inside.items in
    let members = knot.members.items in
    let news = c.in_ok-renumbered.renumbered.items in
    let within = within_at needs count c.requires.within knot.inside.items in
    let renumbered = subst (λ l. AreRenumbered l ins news) c.as_slice-members.ensures.value
    (subst (λ ps. AreRenumbered c.as_slice-members.result.now (needs_at needs ps) news) c.as_slice.ensures.value c.in_ok-renumbered.ensures) in
    let told = subst (λ ns. IsSearched ns (length c.as_slice-members.result.now) c.in_ok-places.field-0) c.as_slice-2.ensures.value c.in_ok-places.ensures in
    let counted = subst (λ l. IsSearched news (length l) c.in_ok-places.field-0) c.as_slice-members.ensures.value told in
    let searched = subst (IsSearched news (length members)) c.in-NoneWorks.is counted in
    none_found ins count within members is.members is.below is.once news renumbered searched.1
