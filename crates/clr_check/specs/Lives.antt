-- Tests of lives where some members go before others.
use Rattle.std.specs.Prelude.{ℕ, Bool, true, false, ◌||◌, ◌==◌, Option, Some, None}
use Rattle.clr_needs.specs.Settings.{Lifetime, Always, With, Without}
use Rattle.clr_ordered_needs.specs.Turns.{Order}

-- the one member is the other, or goes before it
abbrev pub is_up_to : Order ℕ → ℕ → ℕ → Bool
is_up_to before n p = n == p || before n p

-- the first life goes on while the second does
abbrev pub lasts_while : Order ℕ → Lifetime ℕ → Lifetime ℕ → Bool
lasts_while before Always _ = true
lasts_while before (With n) (With p) = is_up_to before n p
lasts_while before (Without p) (Without n) = is_up_to before n p
lasts_while before _ _ = false

abbrev pub lasts_while_if_any : Order ℕ → Lifetime ℕ → Option (Lifetime ℕ) → Bool
lasts_while_if_any before l None = false
lasts_while_if_any before l (Some m) = lasts_while before l m

-- the life goes on while a subject stands
abbrev pub lasts : Order ℕ → Lifetime ℕ → Option (Lifetime ℕ) → Option (Lifetime ℕ) → Bool
lasts before l first second = lasts_while_if_any before l first || lasts_while_if_any before l second

-- the two lives never go on both
abbrev pub never_both_live : Order ℕ → Lifetime ℕ → Lifetime ℕ → Bool
never_both_live before (With p) (Without n) = is_up_to before n p
never_both_live before (Without n) (With p) = is_up_to before n p
never_both_live before _ _ = false

-- of the two lives one always goes on
abbrev pub one_always_lives : Order ℕ → Lifetime ℕ → Lifetime ℕ → Bool
one_always_lives before (With n) (Without p) = is_up_to before n p
one_always_lives before (Without p) (With n) = is_up_to before n p
one_always_lives before _ _ = false
