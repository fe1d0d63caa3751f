-- Needs that pass the test are within.
use Rattle.std.proofs.Common.{◌≡◌, ◌∙◌, ◌<◌, ◌==◌, ◌&&◌, ℕ, Bool, true, false, not, List, [], ◌∷◌, Some, length, nat_lt, slice_get, refl, sym}
use Rattle.std.specs.List.{list_all}
use Rattle.std.proofs.lemmas.Bool.{and_parts, false≢true, ltb-true, or_left}
use Rattle.clr_order_search.specs.declared.open_needs.OpenNeed.{OpenNeed}
use Rattle.clr_order_search.specs.OpenNeeds.{has}
use Rattle.clr_order_search.proofs.Positions.{each_of}
use Rattle.clr_order_search.proofs.Rests.{itself}
use Rattle.clr_order_knots.specs.OpenNeeds.{AreWithin, IsWithin}
use Rattle.clr_order_knots.proofs.Lists.{all_at}
use Rattle.clr_order_tests.specs.Within.{is_within, may_help}

not_both : (b : Bool) → not b ≡ true → b ≡ true → ⊥
not_both true isnt is = false≢true isnt
not_both false isnt is = false≢true is

has_one : (xs : List ℕ) → not (length xs == 0) ≡ true → (m : ℕ) × (has xs m ≡ true)
has_one [] isnt = absurd (false≢true isnt)
has_one (x ∷ xs) isnt = (x, or_left (x == x) (has xs x) (itself x))

module _ (count : ℕ) (need : OpenNeed) (is : is_within count need ≡ true) where
  abbrev below : Bool
  below = list_all (λ m. nat_lt m count) need.blockers.items

  abbrev helping : Bool
  helping = list_all (may_help count need) need.helpers.items

  parts : (not (length need.blockers.items == 0) ≡ true) × ((below && helping) ≡ true)
  parts = and_parts (not (length need.blockers.items == 0)) (below && helping) is

  sides : (below ≡ true) × (helping ≡ true)
  sides = and_parts below helping parts.1

  helps : (m : ℕ) → has need.helpers.items m ≡ true → (nat_lt m count ≡ true) × (not (has need.blockers.items m) ≡ true)
  helps m h = and_parts (nat_lt m count) (not (has need.blockers.items m)) (each_of (may_help count need) need.helpers.items sides.1 m h)

  pub need_within : IsWithin count need
  need_within = record {
    blockers = λ m h. ltb-true m count (each_of (λ x. nat_lt x count) need.blockers.items sides.0 m h);
    helpers = λ m h. ltb-true m count (helps m h).0;
    apart = λ m h k. not_both (has need.blockers.items m) (helps m h).1 k;
    blocked = has_one need.blockers.items parts.0;
  }

pub are_within : (needs : List OpenNeed) (count : ℕ) → list_all (is_within count) needs ≡ true → AreWithin needs count
are_within needs count all need at e = need_within count need (all_at (is_within count) needs all at need e)
