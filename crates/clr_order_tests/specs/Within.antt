-- Needs of which it can be asked what is said of the orders of members.
use Rattle.std.specs.Prelude.{◌==◌, ◌&&◌, ℕ, Bool, not, length, nat_lt}
use Rattle.std.specs.List.{list_all}
use Rattle.clr_order_search.specs.declared.open_needs.OpenNeed.{OpenNeed}
use Rattle.clr_order_search.specs.OpenNeeds.{has}

-- the member is below a number and doesn't block the need
abbrev pub may_help : ℕ → OpenNeed → ℕ → Bool
may_help count need m = nat_lt m count && not (has need.blockers.items m)

-- the need has a blocker, no helper of it is one, and all are below a number
abbrev pub is_within : ℕ → OpenNeed → Bool
is_within count need = not (length need.blockers.items == 0) && (list_all (λ m. nat_lt m count) need.blockers.items
    && list_all (may_help count need) need.helpers.items)
