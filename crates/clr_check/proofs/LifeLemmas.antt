-- What lives do where some members go before others, told by tests.
use Rattle.std.proofs.Common.{◌≡◌, ℕ, true, ◌==◌, Option, Some, None}
use Rattle.std.proofs.lemmas.Bool.Decides.{Decides-eqb}
use Rattle.clr_needs.specs.Settings.{Lifetime, Always, With, Without, Lived}
use Rattle.clr_needs.specs.Tests.{IsTestOf}
use Rattle.clr_needs.proofs.TestLemmas.{either_told, told_by}
use Rattle.clr_ordered_needs.specs.Covers.{Lasts, LastsWhile, LastsWhileIfAny, NeverBothLive, OneAlwaysLives}
use Rattle.clr_ordered_needs.specs.Turns.{Order, IsUpTo}
use Rattle.clr_check.specs.Lives.{is_up_to, lasts, lasts_while, lasts_while_if_any, never_both_live, one_always_lives}

abbrev pub life_of : Option (Lived ℕ) → Option (Lifetime ℕ)
life_of None = None
life_of (Some b) = Some b.life

module _ (before : Order ℕ) where
  up_told : (n p : ℕ) → IsTestOf (is_up_to before n p) (IsUpTo before n p)
  up_told n p = either_told (n == p) (before n p) (n ≡ p) (before n p ≡ true) (told_by (n == p) (n ≡ p) (Decides-eqb n p).0 (Decides-eqb n p).1)
      (told_by (before n p) (before n p ≡ true) (λ e. e) (λ e. e))

  while_told : (l k : Lifetime ℕ) → IsTestOf (lasts_while before l k) (LastsWhile before l k)
  while_told Always Always = tt
  while_told Always (With p) = tt
  while_told Always (Without n) = tt
  while_told (With n) (With p) = up_told n p
  while_told (Without p) (Without n) = up_told n p
  while_told (With n) Always = λ h. h
  while_told (Without n) Always = λ h. h
  while_told (Without n) (With p) = λ h. h
  while_told (With p) (Without n) = λ h. h

  pub one_told : (l k : Lifetime ℕ) → IsTestOf (one_always_lives before l k) (OneAlwaysLives before l k)
  one_told (With n) (Without p) = up_told n p
  one_told (Without p) (With n) = up_told n p
  one_told Always Always = λ h. h
  one_told Always (With n) = λ h. h
  one_told Always (Without n) = λ h. h
  one_told (With p) Always = λ h. h
  one_told (Without n) Always = λ h. h
  one_told (With p) (With n) = λ h. h
  one_told (Without n) (Without p) = λ h. h

  pub never_told : (l k : Lifetime ℕ) → IsTestOf (never_both_live before l k) (NeverBothLive before l k)
  never_told (With p) (Without n) = up_told n p
  never_told (Without n) (With p) = up_told n p
  never_told Always Always = λ h. h
  never_told Always (With n) = λ h. h
  never_told Always (Without n) = λ h. h
  never_told (With p) Always = λ h. h
  never_told (Without n) Always = λ h. h
  never_told (With p) (With n) = λ h. h
  never_told (Without n) (Without p) = λ h. h

  too_told : (l : Lifetime ℕ) (b : Option (Lived ℕ)) → IsTestOf (lasts_while_if_any before l (life_of b)) (LastsWhileIfAny before l b)
  too_told l None = λ h. h
  too_told l (Some b) = while_told l b.life

  pub lasts_told : (l : Lifetime ℕ) (a : Lived ℕ) (b : Option (Lived ℕ)) → IsTestOf (lasts before l (Some a.life) (life_of b)) (Lasts before l a b)
  lasts_told l a b = either_told _ _ (LastsWhile before l a.life) (LastsWhileIfAny before l b) (while_told l a.life) (too_told l b)
