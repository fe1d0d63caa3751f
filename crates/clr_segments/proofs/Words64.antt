-- Numbers that went into words of 64 bits and came back: those of the sizes met here are kept.
use Rattle.std.proofs.Common.{◌≡◌, ◌≢◌, ℤ, pos, negsuc, ◌≤◌, ◌<ℤ◌, ◌↔◌, Bool, true, false, IsTrue, inl, inr, subst₂, ◌*◌, ◌*ℤ◌, ◌-ℤ◌, ◌+ℤ◌, unsigned_abs}
use Rattle.std.proofs.Common.{mul-le-mul, lit<, lit≤, le_trans, lt_of_le_of_lt, ◌∙◌, arith, ap, ap₂, sym, refl, to_z, of_z, SFits, w64, to_z-of_z}
use lib.Signed.{lt_z}
use Rattle.std.proofs.lemmas.Int.{ints, fits_signed_from_abs, unsigned_abs-mul}
use Rattle.std.specs.Int.{int_signum}
use Rattle.clr_segments.proofs.Integers.{linear}
use Rattle.clr_rows.specs.declared.limits.TheConstants.{GREATEST_COORDINATE}
use Rattle.clr_segments.specs.Sizes.{greatest_difference, greatest_product}
use Rattle.clr_segments.specs.Turns.{SameSign}

-- the number that a word of 64 bits holds, after this one was put into it
abbrev pub word_value : ℤ → ℤ
word_value z = to_z w64 (of_z w64 z)

-- numbers of these sizes fit
pub fits : (z : ℤ) → unsigned_abs z ≤ 2 * greatest_product → SFits w64 z
fits z h = fits_signed_from_abs w64 z (lt_of_le_of_lt h (lit< tt))

pub coordinate_fits : (z : ℤ) → unsigned_abs z ≤ GREATEST_COORDINATE → SFits w64 z
coordinate_fits z h = fits z (le_trans h (lit≤ tt))

pub difference_fits : (z : ℤ) → unsigned_abs z ≤ greatest_difference → SFits w64 z
difference_fits z h = fits z (le_trans h (lit≤ tt))

pub product_fits : (z : ℤ) → unsigned_abs z ≤ greatest_product → SFits w64 z
product_fits z h = fits z (le_trans h (lit≤ tt))

-- a number of two words is that of the numbers that they hold
pub two_words : {A : Type 0} (f : ℤ → ℤ → A) (m n : ℤ) → SFits w64 m → SFits w64 n → f (word_value m) (word_value n) ≡ f m n
two_words f m n h k = ap₂ f (to_z-of_z h) (to_z-of_z k)

pub four_words : {A : Type 0} (f : ℤ → ℤ → ℤ → ℤ → A) (p q r u : ℤ) → SFits w64 p → SFits w64 q → SFits w64 r → SFits w64 u
    → f (word_value p) (word_value q) (word_value r) (word_value u) ≡ f p q r u
four_words f p q r u a b c d = two_words (λ (x y : ℤ). f x y (word_value r) (word_value u)) p q a b ∙ two_words (λ (x y : ℤ). f p q x y) r u c d

-- what holds of the words holds of the numbers
pub holds_of_words : (f : ℤ → ℤ → ℤ → ℤ → Type 0) (p q r u : ℤ) → SFits w64 p → SFits w64 q → SFits w64 r → SFits w64 u
    → f (word_value p) (word_value q) (word_value r) (word_value u) → f p q r u
holds_of_words f p q r u a b c d h = subst₂ (λ (x y : ℤ). f p q x y) (to_z-of_z c) (to_z-of_z d) (subst₂ (λ (x y : ℤ). f x y (word_value r) (word_value u))
    (to_z-of_z a) (to_z-of_z b) h)

-- ---- differences, products and their sums
pub difference_is : (x y d : ℤ) → unsigned_abs x ≤ GREATEST_COORDINATE → unsigned_abs y ≤ GREATEST_COORDINATE → d ≡ word_value x -ℤ word_value y → d ≡ x -ℤ y
difference_is x y d h k e = e ∙ two_words (λ (a b : ℤ). a -ℤ b) x y (coordinate_fits x h) (coordinate_fits y k)

pub product_is : (x y p : ℤ) → unsigned_abs x ≤ greatest_difference → unsigned_abs y ≤ greatest_difference → p ≡ word_value x *ℤ word_value y → p ≡ x *ℤ y
product_is x y p h k e = e ∙ two_words (λ (a b : ℤ). a *ℤ b) x y (difference_fits x h) (difference_fits y k)

pub product_bound : (x y : ℤ) → unsigned_abs x ≤ greatest_difference → unsigned_abs y ≤ greatest_difference → unsigned_abs (x *ℤ y) ≤ greatest_product
product_bound x y h k = rw (unsigned_abs-mul x y) (mul-le-mul h k)

pub product_in_word : (x y : ℤ) → unsigned_abs x ≤ greatest_difference → unsigned_abs y ≤ greatest_difference → word_value (word_value x *ℤ word_value y)
    ≡ x *ℤ y
product_in_word x y h k =
    ap word_value (two_words (λ (a b : ℤ). a *ℤ b) x y (difference_fits x h) (difference_fits y k)) ∙ to_z-of_z (product_fits (x *ℤ y) (product_bound x y h k))

pub minus_fits : (m n : ℤ) → unsigned_abs m ≤ greatest_product → unsigned_abs n ≤ greatest_product → SFits w64 (word_value m -ℤ word_value n)
minus_fits m n h k = omega (arith, ints)

pub minus_in_word : (m n : ℤ) → unsigned_abs m ≤ greatest_product → unsigned_abs n ≤ greatest_product → word_value (word_value m -ℤ word_value n) ≡ m -ℤ n
minus_in_word m n h k = to_z-of_z (minus_fits m n h k) ∙ two_words (λ (a b : ℤ). a -ℤ b) m n (product_fits m h) (product_fits n k)

pub plus_fits : (m n : ℤ) → unsigned_abs m ≤ greatest_product → unsigned_abs n ≤ greatest_product → SFits w64 (word_value m +ℤ word_value n)
plus_fits m n h k = omega (arith, ints)

pub plus_in_word : (m n : ℤ) → unsigned_abs m ≤ greatest_product → unsigned_abs n ≤ greatest_product → word_value (word_value m +ℤ word_value n) ≡ m +ℤ n
plus_in_word m n h k = to_z-of_z (plus_fits m n h k) ∙ two_words (λ (a b : ℤ). a +ℤ b) m n (product_fits m h) (product_fits n k)

-- ---- signs
signum_positive : (m : ℤ) → (pos 0 <ℤ int_signum m) ↔ (pos 0 <ℤ m)
signum_positive (pos n) = omega (arith, linear)
signum_positive (negsuc n) = omega (arith, linear)

signum_negative : (m : ℤ) → (int_signum m <ℤ pos 0) ↔ (m <ℤ pos 0)
signum_negative (pos n) = omega (arith, linear)
signum_negative (negsuc n) = omega (arith, linear)

signum_zero : (m : ℤ) → int_signum m ≡ pos 0 → m ≡ pos 0
signum_zero (pos n) e = omega (arith, linear)
signum_zero (negsuc n) e = absurd (omega (arith, linear))

signum_fits : (m : ℤ) → SFits w64 (int_signum m)
signum_fits (pos n) = omega (arith, ints)
signum_fits (negsuc n) = omega (arith, ints)

signum_in_word : (x m : ℤ) → x ≡ int_signum m → word_value x ≡ int_signum m
signum_in_word x m e = ap word_value e ∙ to_z-of_z (signum_fits m)

-- two numbers have one sign where their signs have
same_sign_there : (m n : ℤ) → SameSign (int_signum m) (int_signum n) → SameSign m n
same_sign_there m n (inl h) = inl ((signum_positive m).0 h.0, (signum_positive n).0 h.1)
same_sign_there m n (inr h) = inr ((signum_negative m).0 h.0, (signum_negative n).0 h.1)

same_sign_back : (m n : ℤ) → SameSign m n → SameSign (int_signum m) (int_signum n)
same_sign_back m n (inl h) = inl ((signum_positive m).1 h.0, (signum_positive n).1 h.1)
same_sign_back m n (inr h) = inr ((signum_negative m).1 h.0, (signum_negative n).1 h.1)

pub same_sign_by : (P : Type 0) (m n x y : ℤ) → x ≡ int_signum m → y ≡ int_signum n → P ↔ SameSign (word_value x) (word_value y) → P ↔ SameSign m n
same_sign_by P m n x y e f h =
    let signs : P ↔ SameSign (int_signum m) (int_signum n) = subst₂ (λ (a b : ℤ). P ↔ SameSign a b) (signum_in_word x m e) (signum_in_word y n f) h in
    (λ p. same_sign_there m n (signs.0 p), λ s. signs.1 (same_sign_back m n s))

-- the test of a sign against 0
pub zero_if_tested : (x m : ℤ) → x ≡ int_signum m → of_z w64 x ≡ 0 → m ≡ pos 0
zero_if_tested x m e f = signum_zero m (sym (signum_in_word x m e) ∙ ap (to_z w64) f)

pub tested_if_zero : (x m : ℤ) → x ≡ int_signum m → m ≡ pos 0 → of_z w64 x ≡ 0
tested_if_zero x m e f = ap (of_z w64) (e ∙ ap int_signum f)

-- ---- coordinates that differ or are the same
pub words_apart : (x y : ℤ) → unsigned_abs x ≤ GREATEST_COORDINATE → unsigned_abs y ≤ GREATEST_COORDINATE → x ≢ y → word_value x ≢ word_value y
words_apart x y h k n e = n (sym (to_z-of_z (coordinate_fits x h)) ∙ e ∙ to_z-of_z (coordinate_fits y k))

pub same_words : (x y : ℤ) → unsigned_abs x ≤ GREATEST_COORDINATE → unsigned_abs y ≤ GREATEST_COORDINATE → of_z w64 x ≡ of_z w64 y → x ≡ y
same_words x y h k e = sym (to_z-of_z (coordinate_fits x h)) ∙ ap (to_z w64) e ∙ to_z-of_z (coordinate_fits y k)

-- ---- answers of tests
pub so : {P : Type 0} (b : Bool) → b ≡ true → IsTrue b ↔ P → P
so true e h = h.0 refl
so false e h = cc

pub not_so : {P : Type 0} (b : Bool) → b ≡ false → IsTrue b ↔ P → ¬ P
not_so true e h = cc
not_so false e h = λ p. clash (h.1 p)
  where
    clash : false ≡ true → ⊥
    clash e = cc

-- in `a && b` b decides where a held; where a failed, both do not hold
pub second_decides : {A B : Type 0} (a b : Bool) → a ≡ true → IsTrue a ↔ A → IsTrue b ↔ B → IsTrue b ↔ A × B
second_decides a b e f g = (λ t. (so a e f, g.0 t), λ h. g.1 h.1)

pub first_decides : {A B : Type 0} (a : Bool) → a ≡ false → IsTrue a ↔ A → IsTrue a ↔ A × B
first_decides a e f = (λ t. absurd (not_so a e f (f.0 t)), λ h. f.1 h.0)

pub less_by : (x y m n : ℤ) → x ≡ m → y ≡ n → IsTrue (lt_z x y) ↔ (m <ℤ n)
less_by x y m n e f = (λ t. omega (arith, ints), λ h. sym (omega (arith, ints)))
