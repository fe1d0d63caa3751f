use Rattle.std.proofs.Common.{◌≡◌, true, subst}
use Rattle.clr_order_search.specs.OpenNeeds.{has}
use Rattle.clr_order_answers.specs.Renumbering.{StandFor}
use Rattle.clr_order_answers.proofs.renumbering.renumber.Goals as goal

pub places_of-requires-clause-among : goal.places_of-requires-clause-among
places_of-requires-clause-among c = λ m h. c.requires.among.blockers m (subst (λ xs. has xs m ≡ true) c.as_slice.ensures.value h)

pub places_of-requires-2-clause-among : goal.places_of-requires-2-clause-among
places_of-requires-2-clause-among c = λ m h. c.requires.among.helpers m (subst (λ xs. has xs m ≡ true) c.as_slice-2.ensures.value h)

pub returns : goal.returns
returns c = record {
  blockers = subst (StandFor c.args.list.now c.in_ok-blockers.blockers.items) c.as_slice.ensures.value c.in_ok-blockers.ensures;
  helpers = subst (StandFor c.args.list.now c.in_ok-helpers.helpers.items) c.as_slice-2.ensures.value c.in_ok-helpers.ensures;
}
