-- Arithmetic of signed whole numbers: the laws of a ring, products and order, and sizes.
use Rattle.std.proofs.Common.{◌≡◌, ◌≢◌, ℕ, ℤ, pos, negsuc, zero, suc, neg_ℤ, ◌+ℤ◌, ◌-ℤ◌, ◌*ℤ◌, ◌+◌, ◌*◌, ◌<◌, ◌≤◌, ◌≤ℤ◌, ◌<ℤ◌, ◌∙◌, unsigned_abs, arith, ap}
use Rattle.std.proofs.Common.{sym, refl, mul-le-mul_left}
use Rattle.std.proofs.lemmas.Int.{by_lt_z}
use borrow.Author.Differences.{up, down, same_out, Apart-out, lt_out, le_out, same_in, below_in, at_most_in, sum_is_lem, neg_is, product_is, abs_is}
use lib.IntN.{*ℤ_comm}

-- sums and order of numbers, where a product is a number of its own
pub ruleset linear = (same_out, Apart-out, lt_out, le_out, same_in, below_in, at_most_in, sum_is_lem, neg_is)

-- ---- the laws of a ring
pub *ℤ-add : (a b c : ℤ) → a *ℤ (b +ℤ c) ≡ a *ℤ b +ℤ a *ℤ c
*ℤ-add a b c = omega (arith, linear, product_is, ap (λ (n : ℕ). up a * n) (sum_is_lem b c), ap (λ (n : ℕ). down a * n) (sum_is_lem b c))

pub add-*ℤ : (a b c : ℤ) → (a +ℤ b) *ℤ c ≡ a *ℤ c +ℤ b *ℤ c
add-*ℤ a b c = omega (arith, linear, *ℤ-add c a b, *ℤ_comm (a +ℤ b) c, *ℤ_comm a c, *ℤ_comm b c)

pub *ℤ-neg : (a b : ℤ) → a *ℤ neg_ℤ b ≡ neg_ℤ (a *ℤ b)
*ℤ-neg a b =
    let n = neg_is b in
    omega (
      arith,
      linear,
      product_is,
      ap (λ (k : ℕ). up a * k) n.0,
      ap (λ (k : ℕ). down a * k) n.0,
      ap (λ (k : ℕ). up a * k) n.1,
      ap (λ (k : ℕ). down a * k)
          n.1,
    )

pub neg-*ℤ : (a b : ℤ) → neg_ℤ a *ℤ b ≡ neg_ℤ (a *ℤ b)
neg-*ℤ a b = omega (arith, linear, *ℤ-neg b a, *ℤ_comm (neg_ℤ a) b, *ℤ_comm a b)

pub *ℤ_assoc : (a b c : ℤ) → (a *ℤ b) *ℤ c ≡ a *ℤ (b *ℤ c)
*ℤ_assoc a b c =
    let left = product_is a b in
    let right = product_is b c in
    omega (
      arith,
      linear,
      product_is,
      ap (λ (n : ℕ). n * up c) left.0,
      ap (λ (n : ℕ). n * down c) left.0,
      ap (λ (n : ℕ). n * up c) left.1,
      ap
          (λ (n : ℕ). n * down c) left.1,
      ap (λ (n : ℕ). up a * n) right.0,
      ap (λ (n : ℕ). down a * n) right.0,
      ap (λ (n : ℕ). up a * n) right.1,
      ap
          (λ (n : ℕ). down a * n) right.1,
    )

pub *ℤ_left_comm : (a b c : ℤ) → a *ℤ (b *ℤ c) ≡ b *ℤ (a *ℤ c)
*ℤ_left_comm a b c = sym (*ℤ_assoc a b c) ∙ ap (λ (n : ℤ). n *ℤ c) (*ℤ_comm a b) ∙ *ℤ_assoc b a c

pub *ℤ-zero : (a : ℤ) → a *ℤ pos 0 ≡ pos 0
*ℤ-zero a = omega (arith, linear, product_is)

pub zero-*ℤ : (a : ℤ) → pos 0 *ℤ a ≡ pos 0
zero-*ℤ a = omega (arith, linear, product_is)

pub neg-add : (a b : ℤ) → neg_ℤ (a +ℤ b) ≡ neg_ℤ a +ℤ neg_ℤ b
neg-add a b = omega (arith, linear)

pub neg-neg : (a : ℤ) → neg_ℤ (neg_ℤ a) ≡ a
neg-neg a = omega (arith, linear)

-- a term as a sum of products of variables, in one order
pub ruleset expand = (*ℤ-zero, zero-*ℤ, *ℤ-add, add-*ℤ, *ℤ-neg, neg-*ℤ, neg-add, neg-neg, *ℤ_assoc, *ℤ_comm, *ℤ_left_comm)

-- ---- products and order
pub times_le : (d : ℕ) (a b : ℤ) → a ≤ℤ b → (pos d *ℤ a) ≤ℤ (pos d *ℤ b)
times_le d a b h =
    let sums : up a + down b ≤ up b + down a = omega (arith, linear) in
    omega (arith, linear, product_is, mul-le-mul_left d sums)

pub cancel_le : (d : ℕ) (a b : ℤ) → 0 < d → (pos d *ℤ a) ≤ℤ (pos d *ℤ b) → a ≤ℤ b
cancel_le d a b p h = by_lt_z b a
    (λ less. let more : d * (up b + down a + 1) ≤ d * (up a + down b) = mul-le-mul_left d (omega (arith, linear)) in omega (arith, linear, product_is, more))
    (λ at_most. at_most)

pub cancel_eq : (d : ℕ) (a b : ℤ) → 0 < d → pos d *ℤ a ≡ pos d *ℤ b → a ≡ b
cancel_eq d a b p h =
    let below : a ≤ℤ b = cancel_le d a b p (omega (arith, linear)) in
    let above : b ≤ℤ a = cancel_le d b a p (omega (arith, linear)) in
    omega (arith, linear)

-- a number other than 0 is positive or its negation is
pub by_sign : {P : Type 0} (z : ℤ) → z ≢ pos 0 → ((n : ℕ) → 0 < n → z ≡ pos n → P) → ((n : ℕ) → 0 < n → neg_ℤ z ≡ pos n → P) → P
by_sign (pos zero) h f g = absurd (h refl)
by_sign (pos (suc n)) h f g = f (suc n) (omega arith) refl
by_sign (negsuc n) h f g = g (suc n) (omega arith) refl

pub cancel : (z a b : ℤ) → z ≢ pos 0 → z *ℤ a ≡ z *ℤ b → a ≡ b
cancel z a b h e = by_sign z h
    (λ n p k. cancel_eq n a b p (rw k at e))
    (λ n p k. cancel_eq n a b p (rw (← k, neg-*ℤ z a, neg-*ℤ z b) (ap neg_ℤ e)))

-- two numbers are the same or not
pub by_same : {P : Type 0} (a b : ℤ) → (a ≢ b → P) → (a ≡ b → P) → P
by_same a b f g = by_lt_z a b
    (λ less. f (λ e. omega (arith, linear)))
    (λ at_least. by_lt_z b a (λ more. f (λ e. omega (arith, linear))) (λ at_most. g (omega (arith, linear))))

-- ---- a number that is not negative, as a natural number
pub natural : (z : ℤ) → pos 0 ≤ℤ z → z ≡ pos (up z)
natural (pos n) h = refl
natural (negsuc n) h = absurd (omega (arith, linear))

pub up_le : (a b : ℤ) → pos 0 ≤ℤ a → a ≤ℤ b → up a ≤ up b
up_le (pos a) (pos b) h k = omega (arith, linear)
up_le (pos a) (negsuc b) h k = absurd (omega (arith, linear))
up_le (negsuc a) b h k = absurd (omega (arith, linear))

pub up_positive : (a : ℤ) → pos 0 <ℤ a → 0 < up a
up_positive a h = omega (arith, linear)

-- ---- sizes
pub up_is_size : (z : ℤ) → pos 0 ≤ℤ z → up z ≡ unsigned_abs z
up_is_size (pos n) h = refl
up_is_size (negsuc n) h = absurd (omega (arith, linear))

pub size-neg : (z : ℤ) → unsigned_abs (neg_ℤ z) ≡ unsigned_abs z
size-neg z = omega (arith, linear, abs_is)

pub size-turned : (a b : ℤ) → unsigned_abs (a -ℤ b) ≡ unsigned_abs (b -ℤ a)
size-turned a b = omega (arith, linear, abs_is)

pub size-sub : (a b : ℤ) → unsigned_abs (a -ℤ b) ≤ unsigned_abs a + unsigned_abs b
size-sub a b = omega (arith, linear, abs_is)

-- the difference of two numbers that are not the same isn't 0
pub difference_apart : (p q : ℤ) → p ≢ q → q -ℤ p ≢ pos 0
difference_apart p q n e = n (omega (arith, linear))
