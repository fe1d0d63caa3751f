-- Which texts are taken for numbers of metres: a digit stands in each, and a sign only at its front.
use Rattle.std.proofs.Common.{◌≡◌, Some, None, pos, negsuc, codes, refl}
use Rattle.clr_hints.specs.Metres.{millimetres_of, whole_number}

minus_four_and_a_half : millimetres_of (codes "-4.5") ≡ Some (negsuc 4499)
unfolding whole_number
minus_four_and_a_half = refl

no_digit_behind_the_point : millimetres_of (codes "7.") ≡ Some (pos 7000)
unfolding whole_number
no_digit_behind_the_point = refl

point_alone : millimetres_of (codes ".") ≡ None
point_alone = refl

sign_and_point : millimetres_of (codes "-.") ≡ None
sign_and_point = refl

sign_behind_the_point : millimetres_of (codes ".-5") ≡ None
sign_behind_the_point = refl
