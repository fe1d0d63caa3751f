-- Rows that call a rule, and rows that serve, have a role in it.
use Rattle.std.proofs.Common.{◌≡◌, ◌⊎◌, inl, inr, Bool, true, false, ◌&&◌, ◌||◌, Some, None, refl}
use Rattle.std.specs.Prelude.{if◌then◌else◌}
use Rattle.std.proofs.lemmas.Bool.{and_parts, or_left, or_right}
use Rattle.clr_rows.specs.Held.{Held}
use Rattle.clr_rules.specs.declared.needs.Ask.{Ask}
use Rattle.clr_rules.specs.declared.rules.Rule.{Rule}
use Rattle.clr_rules.specs.declared.sides.Side.{Side}
use Rattle.clr_rules.specs.Calls.{is_plain, are_subjects, is_server}
use Rattle.clr_rules.specs.Laws.{SubjectsHaveRoles, ServersHaveRoles}
use Rattle.clr_rules.specs.Sides.{is_of_side, is_of, are_of, are_of_sides, sides, has_role_in}

pub either_way : (x y z w : Bool) → (if x && y then true else z && w) ≡ true → ((x ≡ true) × (y ≡ true)) ⊎ ((z ≡ true) × (w ≡ true))
either_way true true z w e = inl (refl, refl)
either_way true false z w e = inr (and_parts z w e)
either_way false y z w e = inr (and_parts z w e)

-- each of two rows of two sides has a role
pub both_have_roles : (a b : Side) (s t : Held) → are_of_sides a b s t ≡ true → ((is_of_side a s || is_of_side b s) ≡ true)
    × ((is_of_side a t || is_of_side b t) ≡ true)
both_have_roles a b s t e = elim (either_way (is_of_side a s) (is_of_side b t) (is_of_side a t) (is_of_side b s) e) [
  | inl h ↦ (or_left _ _ h.0, or_right _ _ h.1)
  | inr h ↦ (or_right _ _ h.1, or_left _ _ h.0)
]

-- where the two sides are one, both rows are of it
pub both_of_one : (side : Side) (s t : Held) → are_of_sides side side s t ≡ true → (is_of_side side s ≡ true) × (is_of_side side t ≡ true)
both_of_one side s t e = elim (either_way (is_of_side side s) (is_of_side side t) (is_of_side side t) (is_of_side side s) e) [
  | inl h ↦ h
  | inr h ↦ (h.1, h.0)
]

-- one of two subjects is of the first side, and the other of the second
pub beside : (rule : Rule) (ask : Ask) (s t : Held) → are_subjects rule ask s (Some t) ≡ true
    → ((is_of (sides rule).first s ≡ true) × (is_of (sides rule).second t ≡ true)) ⊎ ((is_of (sides rule).first t ≡ true)
    × (is_of (sides rule).second s ≡ true))
unfolding are_subjects
beside rule ask s t e =
    either_way (is_of (sides rule).first s) (is_of (sides rule).second t) (is_of (sides rule).first t) (is_of (sides rule).second s)
    (and_parts (are_of (sides rule).first (sides rule).second s t) _ e).0

first_has : (rule : Rule) (s : Held) → is_of (sides rule).first s ≡ true → has_role_in rule s ≡ true
unfolding has_role_in
first_has rule s e = or_left _ _ (or_left _ _ (or_right _ _ e))

second_has : (rule : Rule) (s : Held) → is_of (sides rule).second s ≡ true → has_role_in rule s ≡ true
unfolding has_role_in
second_has rule s e = or_left _ _ (or_right _ _ e)

pub subjects_have_roles : SubjectsHaveRoles
unfolding are_subjects has_role_in
subjects_have_roles rule ask s None e = (or_left _ _ (or_left _ _ (or_left _ _ (and_parts (is_plain ask) _ e).1)), tt)
subjects_have_roles rule ask s (Some t) e = elim (beside rule ask s t e) [
  | inl h ↦ (first_has rule s h.0, second_has rule t h.1)
  | inr h ↦ (second_has rule s h.1, first_has rule t h.0)
]

pub servers_have_roles : ServersHaveRoles
unfolding is_server has_role_in
servers_have_roles rule ask s t r e = or_right _ _ (and_parts (is_of (sides rule).server r) _ e).0
