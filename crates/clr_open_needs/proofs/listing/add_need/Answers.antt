use Rattle.clr_open_needs.proofs.listing.add_need.Goals as goal

pub returns : goal.returns
returns g c = record {
  put = record { blockers = c.in_ok-blockers.blockers; helpers = c.in_ok-helpers.helpers };
  has_sides = record { blockers = c.in_ok-blockers.ensures; helpers = c.in_ok-helpers.ensures };
  needs = c.in_ok-push.ensures.items;
  sides = c.in_ok-push-2.ensures.items;
}
