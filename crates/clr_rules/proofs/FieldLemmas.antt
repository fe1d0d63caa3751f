-- Tests of values and places, where they tell whether both are one.
use Rattle.std.proofs.Common.{◌≡◌, ◌↔◌, Bool, IsTrue, Some}
use Rattle.std.proofs.lemmas.Bool.Decides.{same_from_decides}
use Rattle.clr_rows.specs.declared.places.Place.{Place}
use Rattle.clr_rows.specs.declared.rows.Value.{Value}
use Rattle.clr_rows.specs.Same.{same_value, same_place}
use Rattle.clr_rows.proofs.SameLemmas.{value_decides, place_decides}
use Rattle.clr_rules.specs.Sides.{same_field}
use Rattle.clr_rules.specs.Calls.{are_one_point}

pub is_same_field : (told : Bool) (v w : Value) → (IsTrue told ↔ (v ≡ w)) → told ≡ same_field (Some v) (Some w)
is_same_field told v w h = same_from_decides told (same_value v w) h (value_decides v w)

pub is_one_point : (told : Bool) (p q : Place) → (IsTrue told ↔ (p ≡ q)) → told ≡ are_one_point (Some p) (Some q)
is_one_point told p q h = same_from_decides told (same_place p q) h (place_decides p q)
