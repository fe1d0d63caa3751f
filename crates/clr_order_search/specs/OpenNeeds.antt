-- Where open needs are broken: all blockers are merged, and no helper is.
use Rattle.std.specs.Prelude.{ℕ, ◌==◌, Bool, not, ◌&&◌, List}
use Rattle.std.specs.List.{list_all, list_any}
use Rattle.clr_order_search.specs.declared.open_needs.OpenNeed.{OpenNeed}

-- the member is one of a list
abbrev pub has : List ℕ → ℕ → Bool
has members m = list_any (λ x. x == m) members

-- all blockers of the need are merged, and no helper is
abbrev pub is_broken : (ℕ → Bool) → OpenNeed → Bool
is_broken merged need = list_all merged need.blockers.items && not (list_any merged need.helpers.items)

-- one of the needs is broken
abbrev pub breaks_one : List OpenNeed → (ℕ → Bool) → Bool
breaks_one needs merged = list_any (is_broken merged) needs
