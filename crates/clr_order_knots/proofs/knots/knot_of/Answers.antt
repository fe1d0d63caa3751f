use Rattle.std.proofs.Common.{◌≡◌, ℕ, Bool, ap, false, get_or, refl, subst}
use Rattle.clr_order_knots.specs.Members.{AreThose, Tells, is_concerned, needs_at}
use Rattle.clr_order_knots.proofs.knots.knot_of.Goals as goal

pub returns-clause-members : goal.returns-clause-members
returns-clause-members c =
    let needs = c.args.needs.now in
    let tells = subst (λ xs. Tells c.in_ok-table.table.items (is_concerned (needs_at needs xs))) c.as_slice.ensures.value c.in_ok-table.ensures in
    subst (λ (t : ℕ → Bool). AreThose c.args.count t c.in_ok-members.members.items) (λ i m. tells m i)
    (subst (λ xs. AreThose c.args.count (λ m. get_or xs m false) c.in_ok-members.members.items) c.as_slice-2.ensures.value c.in_ok-members.ensures)
