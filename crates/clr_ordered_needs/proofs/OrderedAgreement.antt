-- Needs of settings that are alike but for the names of members are covered alike under orders that are alike.
use Rattle.std.proofs.Common.{◌≡◌, ◌∙◌, List, [], ◌∷◌, inl, inr, refl, sym, subst, Option, Some, None}
use Rattle.clr_needs.specs.declared.needs.Need.{Need}
use Rattle.clr_needs.specs.declared.needs.VersionId.{VersionId}
use Rattle.clr_needs.specs.Covers.{Entry}
use Rattle.clr_needs.specs.Renamings.{IsSameLife, IsSameVersionIfAny}
use Rattle.clr_needs.specs.Settings.{Setting, Lifetime, Always, With, Without, Lived}
use Rattle.clr_needs.proofs.Agreement.{Agree, other_way, touched_to, turned_one, turned_round}
use Rattle.clr_needs.proofs.RenamingLaws.{AreAlike}
use Rattle.clr_ordered_needs.specs.Covers.{AreCovered, CoversAlone, CoverTogether, HasCover, HasEntry, IsUncoveredNeed, Lasts, LastsWhile, LastsWhileIfAny}
use Rattle.clr_ordered_needs.specs.Covers.{NeverBothLive, OneAlwaysLives, SubjectsNeverMeet, WitnessesCover}
use Rattle.clr_ordered_needs.specs.Turns.{Order, IsUpTo}

-- members go before one another as those do that stand for them
abbrev pub AreOrdersAlike : {A B : Type 0} → Order A → Order B → (A → B → Type 0) → Type 0
AreOrdersAlike {A} {B} before earlier stands = (x z : A) (y w : B) → stands x y → stands z w → before x z ≡ earlier y w

-- lives ------------------------------------------------------------------------------------------

module _ {A B : Type 0} (stands : A → B → Type 0) where
  as_always : (m : Lifetime B) → IsSameLife stands Always m → m ≡ Always
  as_always Always same = refl
  as_always _ same = absurd same

  as_with : (x : A) (m : Lifetime B) → IsSameLife stands (With x) m → (y : B) × (m ≡ With y) × stands x y
  as_with x (With y) same = (y, refl, same)
  as_with x _ same = absurd same

  as_without : (x : A) (m : Lifetime B) → IsSameLife stands (Without x) m → (y : B) × (m ≡ Without y) × stands x y
  as_without x (Without y) same = (y, refl, same)
  as_without x _ same = absurd same

  module _ (before : Order A) (earlier : Order B) (one : (x : A) (y z : B) → stands x y → stands x z → y ≡ z) (orders : AreOrdersAlike before earlier stands) where
    up_to : (x z : A) (y w : B) → stands x y → stands z w → IsUpTo before x z → IsUpTo earlier y w
    up_to x z y w at there (inl same) = inl (one x y w at (subst (λ u. stands u w) (sym same) there))
    up_to x z y w at there (inr goes) = inr (sym (orders x z y w at there) ∙ goes)

    lasts_to : (l k : Lifetime A) (m o : Lifetime B) → IsSameLife stands l m → IsSameLife stands k o → LastsWhile before l k → LastsWhile earlier m o
    lasts_to Always k m o same alike h = subst (λ j. LastsWhile earlier j o) (sym (as_always m same)) tt
    lasts_to (With n) (With p) m o same alike h =
        let (y, e, at) = as_with n m same in
        let (w, f, there) = as_with p o alike in
        subst (λ j. LastsWhile earlier j o) (sym e) (subst (LastsWhile earlier (With y)) (sym f) (up_to n p y w at there h))
    lasts_to (Without p) (Without n) m o same alike h =
        let (w, e, at) = as_without p m same in
        let (y, f, there) = as_without n o alike in
        subst (λ j. LastsWhile earlier j o) (sym e) (subst (LastsWhile earlier (Without w)) (sym f) (up_to n p y w there at h))
    lasts_to _ _ m o same alike h = absurd h

    never_to : (l k : Lifetime A) (m o : Lifetime B) → IsSameLife stands l m → IsSameLife stands k o → NeverBothLive before l k → NeverBothLive earlier m o
    never_to (With p) (Without n) m o same alike h =
        let (w, e, at) = as_with p m same in
        let (y, f, there) = as_without n o alike in
        subst (λ j. NeverBothLive earlier j o) (sym e) (subst (NeverBothLive earlier (With w)) (sym f) (up_to n p y w there at h))
    never_to (Without n) (With p) m o same alike h =
        let (y, e, at) = as_without n m same in
        let (w, f, there) = as_with p o alike in
        subst (λ j. NeverBothLive earlier j o) (sym e) (subst (NeverBothLive earlier (Without y)) (sym f) (up_to n p y w at there h))
    never_to _ _ m o same alike h = absurd h

    one_to : (l k : Lifetime A) (m o : Lifetime B) → IsSameLife stands l m → IsSameLife stands k o → OneAlwaysLives before l k → OneAlwaysLives earlier m o
    one_to (With n) (Without p) m o same alike h =
        let (y, e, at) = as_with n m same in
        let (w, f, there) = as_without p o alike in
        subst (λ j. OneAlwaysLives earlier j o) (sym e) (subst (OneAlwaysLives earlier (With y)) (sym f) (up_to n p y w at there h))
    one_to (Without p) (With n) m o same alike h =
        let (w, e, at) = as_without p m same in
        let (y, f, there) = as_with n o alike in
        subst (λ j. OneAlwaysLives earlier j o) (sym e) (subst (OneAlwaysLives earlier (Without w)) (sym f) (up_to n p y w there at h))
    one_to _ _ m o same alike h = absurd h

-- one need ------------------------------------------------------------------------------------------

module _ {A B : Type 0} (before : Order A) (c : Setting A) (earlier : Order B) (d : Setting B) (stands : A → B → Type 0)
    (one : (x : A) (y z : B) → stands x y → stands x z → y ≡ z) (orders : AreOrdersAlike before earlier stands) (n : Need) (a : Lived A) (b : Option (Lived A))
    (p : Lived B) (q : Option (Lived B)) (agree : Agree c d stands n a b p q) where
  lasting_to : (l : Lifetime A) (m : Lifetime B) → IsSameLife stands l m → Lasts before l a b → Lasts earlier m p q
  lasting_to l m same (inl while) = inl (lasts_to stands before earlier one orders l a.life m p.life same agree.first.life while)
  lasting_to l m same (inr while) = inr (by b q agree.second while)
    where
      by : (d : Option (Lived A)) (e : Option (Lived B)) → IsSameVersionIfAny stands d e → LastsWhileIfAny before l d → LastsWhileIfAny earlier m e
      by None e alike h = absurd h
      by (Some x) None alike h = absurd alike
      by (Some x) (Some y) alike h = lasts_to stands before earlier one orders l x.life m y.life same alike.life h

  alone_to : (v : VersionId) → CoversAlone before c n a b v → CoversAlone earlier d n p q v
  alone_to v (l, serve, lasts) = let (m, it, same) = agree.to v l serve in (m, it, lasting_to l.life m.life same.life lasts)

  together_to : (v w : VersionId) → CoverTogether before c n a b v w → CoverTogether earlier d n p q v w
  together_to v w (l, k, serve, serve_too, lives) =
      let (m, it, same) = agree.to v l serve in
      let (o, it_too, alike) = agree.to w k serve_too in
      (m, o, it, it_too, one_to stands before earlier one orders l.life k.life m.life o.life same.life alike.life lives)

  witnesses_to : (v : VersionId) (w : Option VersionId) → WitnessesCover before c n a b v w → WitnessesCover earlier d n p q v w
  witnesses_to v None cover = alone_to v cover
  witnesses_to v (Some w) (inl cover) = inl (alone_to v cover)
  witnesses_to v (Some w) (inr (inl cover)) = inr (inl (alone_to w cover))
  witnesses_to v (Some w) (inr (inr cover)) = inr (inr (together_to v w cover))

  pub entry_to : (es : List Entry) → HasEntry before c n a b es → HasEntry earlier d n p q es
  entry_to [] h = absurd h
  entry_to (e ∷ es) (inl (same, cover)) = inl (same, witnesses_to e.1 e.2 cover)
  entry_to (e ∷ es) (inr later) = inr (entry_to es later)

  pub meet_to : SubjectsNeverMeet before a b → SubjectsNeverMeet earlier p q
  meet_to = by b q agree.second
    where
      by : (x : Option (Lived A)) (y : Option (Lived B)) → IsSameVersionIfAny stands x y → SubjectsNeverMeet before a x → SubjectsNeverMeet earlier p y
      by None y alike h = absurd h
      by (Some x) None alike h = absurd alike
      by (Some x) (Some y) alike h = never_to stands before earlier one orders a.life x.life p.life y.life agree.first.life alike.life h

  pub cover_to : HasCover before c n a b → HasCover earlier d n p q
  cover_to (inl never) = inl (meet_to never)
  cover_to (inr (v, w, cover)) = inr (v, w, witnesses_to v w cover)

-- all needs -----------------------------------------------------------------------------------------

module _ {A B : Type 0} (before : Order A) (c : Setting A) (earlier : Order B) (d : Setting B) (stands : A → B → Type 0) (alike : AreAlike c d stands)
    (orders : AreOrdersAlike before earlier stands) where
  pub covered_to : (es : List Entry) → AreCovered before c es → AreCovered earlier d es
  covered_to es covered n p q possible touched =
      let s = alike.back n p q possible in
      let agree = turned_round (other_way stands) d c n p q s.first s.second s.agree in
      elim (covered n s.first s.second s.possible (touched_to d c (other_way stands) (turned_one stands alike.one) n p q s.first s.second s.agree touched)) [
        | inl never ↦ inl (meet_to before c earlier d stands alike.one.one_right orders n s.first s.second p q agree never)
        | inr has ↦ inr (entry_to before c earlier d stands alike.one.one_right orders n s.first s.second p q agree es has)
      ]

  pub uncovered_to : (n : Need) → IsUncoveredNeed before c n → IsUncoveredNeed earlier d n
  uncovered_to n (a, b, uncovered) =
      let s = alike.to n a b uncovered.possible in
      let back = turned_round stands c d n a b s.first s.second s.agree in (
        s.first,
        s.second,
        record {
          possible = s.possible;
          touched = touched_to c d stands alike.one n a b s.first s.second s.agree uncovered.touched;
          no_cover = λ cover. uncovered.no_cover (cover_to earlier d before c (other_way stands) (turned_one stands alike.one).one_right
              (λ y w x z at there. sym (orders x z y w at there)) n s.first s.second a b back cover);
        },
      )
