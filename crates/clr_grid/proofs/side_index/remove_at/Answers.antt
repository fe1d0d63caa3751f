use Rattle.std.proofs.Common.{◌≡◌, ◌∙◌, nat_eq, IsSome, Some, ap, refl, subst, sym}
use Rattle.std.specs.FinSet as set
use Rattle.std.specs.HashMap.{get}
use Rattle.clr_grid.proofs.FilingLemmas.{AtNumbers, some_taken}
use Rattle.clr_grid.proofs.side_index.remove_at.Goals as goal

pub returns-in-Some-clause-cells : goal.returns-in-Some-clause-cells
returns-in-Some-clause-cells c =
    let f : AtNumbers = get nat_eq c.args.by_spot.now in
    let g : AtNumbers = get nat_eq (c.get_mut.follows.lender c.remove.new.self) in
    some_taken f g c.args.number c.args.cell c.in-Some.cells.now c.remove.new.self (sym c.in-Some.ensures.value) c.remove.ensures
    ((c.get_mut.follows.holds c.remove.new.self).3 (subst (λ o. IsSome o) c.in-Some.ensures.value refl)).0

pub returns-in-Some-clause-none : goal.returns-in-Some-clause-none
returns-in-Some-clause-none c empty =
    ((c.get_mut.follows.holds c.remove.new.self).3 (subst (λ o. IsSome o) c.in-Some.ensures.value refl)).1 ∙ ap Some (c.is_empty.ensures.none empty)

pub returns-in-Some-clause-some : goal.returns-in-Some-clause-some
returns-in-Some-clause-some c full e =
    let left = ((c.get_mut.follows.holds c.remove.new.self).3 (subst (λ o. IsSome o) c.in-Some.ensures.value refl)).1 in
    let same : c.remove.new.self ≡ set.empty = cc (left, e) in
    c.is_empty.ensures.some full same
