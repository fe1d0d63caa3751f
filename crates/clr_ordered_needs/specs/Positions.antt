-- Who goes before whom, by the positions of members in their list.
use Rattle.std.specs.Prelude.{ℕ, Bool, false, List, Option, Some, slice_get}
use Rattle.clr_ordered_needs.specs.Turns.{Order}

abbrev pub goes_before_if_any : {A : Type 0} → Order A → Option A → Option A → Bool
goes_before_if_any before (Some n) (Some p) = before n p
goes_before_if_any before _ _ = false

-- the member at the one position goes before the member at the other
abbrev pub order_at : {A : Type 0} → Order A → List A → Order ℕ
order_at before members j k = goes_before_if_any before (slice_get members j) (slice_get members k)
