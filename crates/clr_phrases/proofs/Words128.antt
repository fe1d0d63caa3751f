-- Numbers that went into words of 128 bits and came back: those of the sizes met here are kept.
use Rattle.std.proofs.Common.{◌≡◌, ℤ, ◌≤◌, ◌*◌, ◌*ℤ◌, ◌-ℤ◌, unsigned_abs, mul-le-mul, lit<, lit≤, le_trans, lt_of_le_of_lt, ◌∙◌, arith, ap, ap₂, sym, subst, to_z, of_z, SFits, to_z-of_z}
use Rattle.std.specs.Int.{w128}
use Rattle.std.proofs.lemmas.Int.{fits_signed_from_abs, unsigned_abs-mul}
use Rattle.clr_segments.specs.Sizes.{greatest_difference, greatest_product}
use Rattle.clr_segments.proofs.Integers.{size-sub}

-- the number that a word of 128 bits holds, after this one was put into it
abbrev pub word_value : ℤ → ℤ
word_value z = to_z w128 (of_z w128 z)

-- no greater than a way times a cross product
abbrev pub IsShift : ℤ → Type 0
IsShift z = unsigned_abs z ≤ greatest_difference * (2 * greatest_product)

pub fits : (z : ℤ) → IsShift z → SFits w128 z
fits z h = fits_signed_from_abs w128 z (lt_of_le_of_lt h (lit< tt))

pub difference_fits : (z : ℤ) → unsigned_abs z ≤ greatest_difference → SFits w128 z
difference_fits z h = fits z (le_trans h (lit≤ tt))

pub product_fits : (z : ℤ) → unsigned_abs z ≤ greatest_product → SFits w128 z
product_fits z h = fits z (le_trans h (lit≤ tt))

pub area_fits : (z : ℤ) → unsigned_abs z ≤ 2 * greatest_product → SFits w128 z
area_fits z h = fits z (le_trans h (lit≤ tt))

-- a number of two words is that of the numbers that they hold
pub two_words : {A : Type 0} (f : ℤ → ℤ → A) (m n : ℤ) → SFits w128 m → SFits w128 n → f (word_value m) (word_value n) ≡ f m n
two_words f m n h k = ap₂ f (to_z-of_z h) (to_z-of_z k)

-- the word of such a number holds it, where it fits
in_word : (f : ℤ → ℤ → ℤ) (m n : ℤ) → SFits w128 m → SFits w128 n → SFits w128 (f m n) → word_value (f (word_value m) (word_value n)) ≡ f m n
in_word f m n h k both = ap word_value (two_words f m n h k) ∙ to_z-of_z both

-- ---- differences of products of two ways
minus_bound : (m n : ℤ) → unsigned_abs m ≤ greatest_product → unsigned_abs n ≤ greatest_product → unsigned_abs (m -ℤ n) ≤ 2 * greatest_product
minus_bound m n h k = omega (arith, size-sub m n)

pub minus_fits : (m n : ℤ) → unsigned_abs m ≤ greatest_product → unsigned_abs n ≤ greatest_product → SFits w128 (word_value m -ℤ word_value n)
minus_fits m n h k = subst (λ (z : ℤ). SFits w128 z) (sym (two_words (λ (a b : ℤ). a -ℤ b) m n (product_fits m h) (product_fits n k)))
    (area_fits (m -ℤ n) (minus_bound m n h k))

-- the word of the difference of two products holds it, and is no greater than the two together
pub minus_kept : (m n : ℤ) → unsigned_abs m ≤ greatest_product → unsigned_abs n ≤ greatest_product
    → (word_value (word_value m -ℤ word_value n) ≡ m -ℤ n) × (unsigned_abs (word_value (word_value m -ℤ word_value n)) ≤ 2 * greatest_product)
minus_kept m n h k =
    let bound = minus_bound m n h k in
    let is = in_word (λ (a b : ℤ). a -ℤ b) m n (product_fits m h) (product_fits n k) (area_fits (m -ℤ n) bound) in
    (is, subst (λ (z : ℤ). unsigned_abs z ≤ 2 * greatest_product) (sym is) bound)

-- ---- a way times a cross product
pub shift_bound : (x y : ℤ) → unsigned_abs x ≤ greatest_difference → unsigned_abs y ≤ 2 * greatest_product → IsShift (x *ℤ y)
shift_bound x y h k = rw (unsigned_abs-mul x y) (mul-le-mul h k)

pub shift_in_word : (x y : ℤ) → unsigned_abs x ≤ greatest_difference → unsigned_abs y ≤ 2 * greatest_product → word_value (word_value x *ℤ word_value y)
    ≡ x *ℤ y
shift_in_word x y h k = in_word (λ (a b : ℤ). a *ℤ b) x y (difference_fits x h) (area_fits y k) (fits (x *ℤ y) (shift_bound x y h k))
