-- Entries that cover under an order cover where more members go before others.
use Rattle.std.proofs.Common.{◌≡◌, ℕ, true, List, [], ◌∷◌, ◌⊎◌, inl, inr, Option, Some, None}
use Rattle.clr_needs.specs.declared.needs.Need.{Need}
use Rattle.clr_needs.specs.declared.needs.VersionId.{VersionId}
use Rattle.clr_needs.specs.Covers.{Entry}
use Rattle.clr_needs.specs.Settings.{Setting, Lifetime, Always, With, Without, Lived}
use Rattle.clr_ordered_needs.specs.Covers.{AreCovered, CoversAlone, CoverTogether, HasEntry, Lasts, LastsWhile, NeverBothLive, OneAlwaysLives, SubjectsNeverMeet}
use Rattle.clr_ordered_needs.specs.Covers.{WitnessesCover}
use Rattle.clr_ordered_needs.specs.Turns.{Order, IsUpTo}

module _ (before after : Order ℕ) (more : (x y : ℕ) → before x y ≡ true → after x y ≡ true) where
  up_to : (x y : ℕ) → IsUpTo before x y → IsUpTo after x y
  up_to x y (inl same) = inl same
  up_to x y (inr goes) = inr (more x y goes)

  lasts_while : (l k : Lifetime ℕ) → LastsWhile before l k → LastsWhile after l k
  lasts_while Always k h = tt
  lasts_while (With n) (With p) h = up_to n p h
  lasts_while (Without p) (Without n) h = up_to n p h
  lasts_while (With n) Always h = absurd h
  lasts_while (With n) (Without p) h = absurd h
  lasts_while (Without n) Always h = absurd h
  lasts_while (Without n) (With p) h = absurd h

  lasts : (l : Lifetime ℕ) (a : Lived ℕ) (b : Option (Lived ℕ)) → Lasts before l a b → Lasts after l a b
  lasts l a b (inl h) = inl (lasts_while l a.life h)
  lasts l a None (inr h) = absurd h
  lasts l a (Some b) (inr h) = inr (lasts_while l b.life h)

  never_both : (l m : Lifetime ℕ) → NeverBothLive before l m → NeverBothLive after l m
  never_both (With p) (Without n) h = up_to n p h
  never_both (Without n) (With p) h = up_to n p h
  never_both Always m h = absurd h
  never_both (With p) Always h = absurd h
  never_both (With p) (With n) h = absurd h
  never_both (Without p) Always h = absurd h
  never_both (Without p) (Without n) h = absurd h

  one_always : (l m : Lifetime ℕ) → OneAlwaysLives before l m → OneAlwaysLives after l m
  one_always (With n) (Without p) h = up_to n p h
  one_always (Without p) (With n) h = up_to n p h
  one_always Always m h = absurd h
  one_always (With p) Always h = absurd h
  one_always (With p) (With n) h = absurd h
  one_always (Without p) Always h = absurd h
  one_always (Without p) (Without n) h = absurd h

  never_meet : (a : Lived ℕ) (b : Option (Lived ℕ)) → SubjectsNeverMeet before a b → SubjectsNeverMeet after a b
  never_meet a None h = h
  never_meet a (Some b) h = never_both a.life b.life h

  module _ (c : Setting ℕ) (n : Need) (a : Lived ℕ) (b : Option (Lived ℕ)) where
    alone : (v : VersionId) → CoversAlone before c n a b v → CoversAlone after c n a b v
    alone v (l, serve, h) = (l, serve, lasts l.life a b h)

    together : (v w : VersionId) → CoverTogether before c n a b v w → CoverTogether after c n a b v w
    together v w (l, m, serve, serve_too, h) = (l, m, serve, serve_too, one_always l.life m.life h)

    witnesses : (v : VersionId) (w : Option VersionId) → WitnessesCover before c n a b v w → WitnessesCover after c n a b v w
    witnesses v None h = alone v h
    witnesses v (Some w) (inl h) = inl (alone v h)
    witnesses v (Some w) (inr (inl h)) = inr (inl (alone w h))
    witnesses v (Some w) (inr (inr h)) = inr (inr (together v w h))

    has_entry : (es : List Entry) → HasEntry before c n a b es → HasEntry after c n a b es
    has_entry [] h = absurd h
    has_entry (e ∷ es) (inl (same, h)) = inl (same, witnesses e.1 e.2 h)
    has_entry (e ∷ es) (inr h) = inr (has_entry es h)

  pub covered_by_more : (c : Setting ℕ) (es : List Entry) → AreCovered before c es → AreCovered after c es
  covered_by_more c es are n a b possible touched = elim (are n a b possible touched) [
    | inl never ↦ inl (never_meet a b never)
    | inr h ↦ inr (has_entry c n a b es h)
  ]
