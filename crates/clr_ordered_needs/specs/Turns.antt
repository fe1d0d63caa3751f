-- Which members go before which, and members that have come in turn.
use Rattle.std.specs.Prelude.{◌≡◌, ℕ, Bool, true, false, if◌then◌else◌, List, [], ◌∷◌, Some, ◌⊎◌, slice_get}
use Rattle.clr_needs.specs.Settings.{Setting, has}

-- `before n p` says that n goes before p: by a list of pairs, say. Nothing is asked of it; it needn't be transitive, and may even go in a circle
abbrev pub Order : Type 0 → Type 0
Order A = A → A → Bool

-- no member goes before another
abbrev pub no_order : {A : Type 0} → Order A
no_order n p = false

abbrev pub IsTransitive : {A : Type 0} → Order A → Type 0
IsTransitive {A} before = (m n p : A) → before m n ≡ true → before n p ≡ true → before m p ≡ true

-- the one member is the other, or goes before it
abbrev pub IsUpTo : {A : Type 0} → Order A → A → A → Type 0
IsUpTo before n p = (n ≡ p) ⊎ (before n p ≡ true)

-- some members have come in turn: with each of them, every member that goes before it
abbrev pub AreInTurn : {A : Type 0} → Order A → Setting A → List A → Type 0
AreInTurn {A} before c ts = (n p : A) → before n p ≡ true → has c.same c.members n ≡ true → has c.same ts p ≡ true → has c.same ts n ≡ true

-- one after another --------------------------------------------------------------------------

-- the one member stands before the other in a list
abbrev pub is_earlier : {A : Type 0} → (A → A → Bool) → List A → Order A
is_earlier same [] n p = false
is_earlier same (x ∷ xs) n p = if same x n then has same xs p else is_earlier same xs n p

-- a list of exactly the members, each once
pub record ListsAll {A : Type 0} (c : Setting A) (list : List A) : Type 0 where
  pub members : (x : A) → has c.same list x ≡ has c.same c.members x
  pub once : (j k : ℕ) (x : A) → slice_get list j ≡ Some x → slice_get list k ≡ Some x → j ≡ k
