-- A need whose subjects and servers are the same in two settings, but for the names of members, is touched, covered and broken alike there. It
-- involves the same members.
use Rattle.std.proofs.Common.{◌≡◌, ◌∙◌, List, [], ◌∷◌, inl, inr, refl, sym, ap, subst, Option, Some, None}
use Rattle.clr_needs.specs.declared.needs.Need.{Need}
use Rattle.clr_needs.specs.declared.needs.VersionId.{VersionId}
use Rattle.clr_needs.specs.Covers.{CoversAlone, CoverTogether, Entry, HasEntry, IsBlocker, IsLifeOf, Lasts, WitnessesCover}
use Rattle.clr_needs.specs.Independence.{Involves}
use Rattle.clr_needs.specs.Needs.{AreOpposed, IsChanged, IsTouchedBy, Serves}
use Rattle.clr_needs.specs.Picks.{HasBoth, IsLeastVersion, IsPickBy, ServesAs}
use Rattle.clr_needs.specs.Renamings.{IsSameLife, IsSameVersion, IsSameVersionIfAny}
use Rattle.clr_needs.specs.Settings.{Setting, Lifetime, Always, With, Without, Lived}
use Rattle.clr_needs.proofs.PartLives.{IsSecondIn, IsVersionIn, names_up, second_in, second_names_up, version_in}
use Rattle.clr_needs.proofs.PickLaws.{least_as}

-- members and those that stand for them
pub record IsOneToOne {A B : Type 0} (stands : A → B → Type 0) : Type 0 where
  pub one_right : (x : A) (y z : B) → stands x y → stands x z → y ≡ z
  pub one_left : (x z : A) (y : B) → stands x y → stands z y → x ≡ z

-- members come in the same order as those that stand for them
pub record IsInOneOrder {A B : Type 0} (before : A → A → Type 0) (earlier : B → B → Type 0) (stands : A → B → Type 0) : Type 0 where
  pub rising : (x z : A) (y w : B) → stands x y → stands z w → before x z → earlier y w
  pub falling : (x z : A) (y w : B) → stands x y → stands z w → earlier y w → before x z

-- the subjects of a need in two settings, and what serves it there
pub record Agree {A B : Type 0} (c : Setting A) (d : Setting B) (stands : A → B → Type 0) (n : Need) (a : Lived A) (b : Option (Lived A)) (p : Lived B)
    (q : Option (Lived B)) : Type 0 where
  pub first : IsSameVersion stands a p
  pub second : IsSameVersionIfAny stands b q
  pub to : (v : VersionId) (l : Lived A) → Serves c n a b v l → (m : Lived B) × Serves d n p q v m × IsSameVersion stands l m
  pub back : (v : VersionId) (m : Lived B) → Serves d n p q v m → (l : Lived A) × Serves c n a b v l × IsSameVersion stands l m

-- the other way round -----------------------------------------------------------------------------

abbrev pub other_way : {A B : Type 0} → (A → B → Type 0) → B → A → Type 0
other_way stands y x = stands x y

module _ {A B : Type 0} (stands : A → B → Type 0) where
  turned_life : (l : Lifetime A) (m : Lifetime B) → IsSameLife stands l m → IsSameLife (other_way stands) m l
  turned_life Always Always same = tt
  turned_life (With x) (With y) same = same
  turned_life (Without x) (Without y) same = same
  turned_life _ _ same = absurd same

  pub turned_version : (l : Lived A) (m : Lived B) → IsSameVersion stands l m → IsSameVersion (other_way stands) m l
  turned_version l m same = record { row = sym same.row; life = turned_life l.life m.life same.life }

  turned_second : (b : Option (Lived A)) (e : Option (Lived B)) → IsSameVersionIfAny stands b e → IsSameVersionIfAny (other_way stands) e b
  turned_second None None same = tt
  turned_second None (Some m) same = absurd same
  turned_second (Some l) None same = absurd same
  turned_second (Some l) (Some m) same = turned_version l m same

  pub turned_one : IsOneToOne stands → IsOneToOne (other_way stands)
  turned_one one = record { one_right = λ y x z. one.one_left x z y; one_left = λ y z x. one.one_right x y z }

  pub turned_order : (before : A → A → Type 0) (earlier : B → B → Type 0) → IsInOneOrder before earlier stands → IsInOneOrder earlier before (other_way stands)
  turned_order before earlier order = record { rising = λ y w x z. order.falling x z y w; falling = λ y w x z. order.rising x z y w }

  pub turned_round : (c : Setting A) (d : Setting B) (n : Need) (a : Lived A) (b : Option (Lived A)) (p : Lived B) (q : Option (Lived B))
      → Agree c d stands n a b p q
      → Agree d c (other_way stands) n p q a b
  turned_round c d n a b p q agree = record {
    first = turned_version a p agree.first;
    second = turned_second b q agree.second;
    to = λ v m serve. (let (l, it, same) = agree.back v m serve in (l, it, turned_version l m same));
    back = λ v l serve. (let (m, it, same) = agree.to v l serve in (m, it, turned_version l m same));
  }

-- lives -------------------------------------------------------------------------------------------

module _ {A B : Type 0} (stands : A → B → Type 0) where
  as_always : (m : Lifetime B) → IsSameLife stands Always m → m ≡ Always
  as_always Always same = refl
  as_always _ same = absurd same

  as_with : (x : A) (m : Lifetime B) → IsSameLife stands (With x) m → (y : B) × (m ≡ With y) × stands x y
  as_with x (With y) same = (y, refl, same)
  as_with x _ same = absurd same

  as_without : (x : A) (m : Lifetime B) → IsSameLife stands (Without x) m → (y : B) × (m ≡ Without y) × stands x y
  as_without x (Without y) same = (y, refl, same)
  as_without x _ same = absurd same

  changed_to : (l : Lifetime A) (m : Lifetime B) → IsSameLife stands l m → IsChanged l → IsChanged m
  changed_to (Without x) (Without y) same changed = changed
  changed_to Always _ same changed = absurd changed
  changed_to (With x) _ same changed = absurd changed
  changed_to (Without x) _ same changed = absurd same

  module _ (one : IsOneToOne stands) where
    one_life : (l : Lifetime A) (k m : Lifetime B) → IsSameLife stands l k → IsSameLife stands l m → k ≡ m
    one_life Always k m same alike = as_always k same ∙ sym (as_always m alike)
    one_life (With x) k m same alike =
        let (y, e, h) = as_with x k same in
        let (z, f, j) = as_with x m alike in
        e ∙ ap With (one.one_right x y z h j) ∙ sym f
    one_life (Without x) k m same alike =
        let (y, e, h) = as_without x k same in
        let (z, f, j) = as_without x m alike in
        e ∙ ap Without (one.one_right x y z h j) ∙ sym f

    -- the life of a version is that of the one that stands for it
    pub life_to : (l k : Lifetime A) (m o : Lifetime B) → IsSameLife stands l m → IsSameLife stands k o → l ≡ k → m ≡ o
    life_to l k m o same alike e = one_life l m o same (subst (λ j. IsSameLife stands j o) (sym e) alike)

    pub opposed_to : (l k : Lifetime A) (m o : Lifetime B) → IsSameLife stands l m → IsSameLife stands k o → AreOpposed l k → AreOpposed m o
    opposed_to (With x) (Without z) m o same alike e =
        let (y, f, h) = as_with x m same in
        let (w, g, j) = as_without z o alike in
        subst (λ k. AreOpposed k o) (sym f) (subst (AreOpposed (With y)) (sym g) (one.one_right x y w h (subst (λ u. stands u w) (sym e) j)))
    opposed_to (Without x) (With z) m o same alike e =
        let (y, f, h) = as_without x m same in
        let (w, g, j) = as_with z o alike in
        subst (λ k. AreOpposed k o) (sym f) (subst (AreOpposed (Without y)) (sym g) (one.one_right x y w h (subst (λ u. stands u w) (sym e) j)))
    opposed_to _ _ m o same alike e = absurd e

-- whom a need involves ------------------------------------------------------------------------------

module _ {A B : Type 0} (c : Setting A) (d : Setting B) (stands : A → B → Type 0) (n : Need) (a : Lived A) (b : Option (Lived A)) (p : Lived B)
    (q : Option (Lived B)) where
  abbrev ServeIn : Type 0
  ServeIn = (v : VersionId) (l : Lived A) → Serves c n a b v l → (m : Lived B) × Serves d n p q v m × IsVersionIn stands l m

  pub involves_up : IsVersionIn stands a p → IsSecondIn stands b q → ServeIn → (x : A) → Involves c n a b x → (y : B) × stands x y × Involves d n p q y
  involves_up first second up x (inl e) = let (y, is, names) = names_up stands a.life p.life x first.life e in (y, is, inl names)
  involves_up first second up x (inr (inl e)) = let (y, is, names) = second_names_up stands b q x second e in (y, is, inr (inl names))
  involves_up first second up x (inr (inr (v, l, serve, e))) =
      let (m, it, same) = up v l serve in
      let (y, is, names) = names_up stands l.life m.life x same.life e in
      (y, is, inr (inr (v, m, it, names)))

-- one need ------------------------------------------------------------------------------------------

module _ {A B : Type 0} (c : Setting A) (d : Setting B) (stands : A → B → Type 0) (one : IsOneToOne stands) (n : Need) (a : Lived A) (b : Option (Lived A))
    (p : Lived B) (q : Option (Lived B))
    (agree : Agree c d stands n a b p q) where
  pub touched_to : IsTouchedBy c n a b → IsTouchedBy d n p q
  touched_to (inl fresh) = inl fresh
  touched_to (inr (v, l, serve, changed)) = let (m, it, same) = agree.to v l serve in inr (v, m, it, changed_to stands l.life m.life same.life changed)

  pub involves_to : (x : A) → Involves c n a b x → (y : B) × stands x y × Involves d n p q y
  involves_to = involves_up c d stands n a b p q (version_in stands a p agree.first) (second_in stands b q agree.second)
      (λ v l serve. (let (m, it, same) = agree.to v l serve in (m, it, version_in stands l m same)))

  -- ---- what covers it

  life_of_to : (l : Lifetime A) (m : Lifetime B) → IsSameLife stands l m → IsLifeOf l b → IsLifeOf m q
  life_of_to l m same is = by b q agree.second is
    where
      by : (b : Option (Lived A)) (q : Option (Lived B)) → IsSameVersionIfAny stands b q → IsLifeOf l b → IsLifeOf m q
      by None q alike is = absurd is
      by (Some b) None alike is = absurd alike
      by (Some b) (Some q) alike is = life_to stands one l b.life m q.life same alike.life is

  lasts_to : (l : Lifetime A) (m : Lifetime B) → IsSameLife stands l m → Lasts l a b → Lasts m p q
  lasts_to l m same (inl e) = inl (as_always stands m (subst (λ o. IsSameLife stands o m) e same))
  lasts_to l m same (inr (inl e)) = inr (inl (life_to stands one l a.life m p.life same agree.first.life e))
  lasts_to l m same (inr (inr e)) = inr (inr (life_of_to l m same e))

  pub alone_to : (v : VersionId) → CoversAlone c n a b v → CoversAlone d n p q v
  alone_to v (l, serve, lasts) = let (m, it, same) = agree.to v l serve in (m, it, lasts_to l.life m.life same.life lasts)

  pub together_to : (v w : VersionId) → CoverTogether c n a b v w → CoverTogether d n p q v w
  together_to v w (l, k, serve, other, opposed) =
      let (m, it, same) = agree.to v l serve in
      let (o, its, alike) = agree.to w k other in
      (m, o, it, its, opposed_to stands one l.life k.life m.life o.life same.life alike.life opposed)

  witnesses_to : (v : VersionId) (w : Option VersionId) → WitnessesCover c n a b v w → WitnessesCover d n p q v w
  witnesses_to v None covers = alone_to v covers
  witnesses_to v (Some w) (inl one) = inl (alone_to v one)
  witnesses_to v (Some w) (inr (inl two)) = inr (inl (alone_to w two))
  witnesses_to v (Some w) (inr (inr both)) = inr (inr (together_to v w both))

  pub entry_to : (es : List Entry) → HasEntry c n a b es → HasEntry d n p q es
  entry_to [] none = absurd none
  entry_to (e ∷ es) (inl (is, covers)) = inl (is, witnesses_to e.1 e.2 covers)
  entry_to (e ∷ es) (inr more) = inr (entry_to es more)

  -- ---- members that break it

  pub blocker_to : (x : A) → IsBlocker c n a b x → (y : B) × stands x y × IsBlocker d n p q y
  blocker_to x (inl e) =
      let (y, f, h) = as_with stands x p.life (subst (λ k. IsSameLife stands k p.life) e agree.first.life) in
      (y, h, inl f)
  blocker_to x (inr (inl e)) = let (y, h, is) = by b q agree.second e in (y, h, inr (inl is))
    where
      by : (b : Option (Lived A)) (q : Option (Lived B)) → IsSameVersionIfAny stands b q → IsLifeOf (With x) b → (y : B) × stands x y × IsLifeOf (With y) q
      by None q alike e = absurd e
      by (Some b) None alike e = absurd alike
      by (Some b) (Some k) alike e = let (y, f, h) = as_with stands x k.life (subst (λ o. IsSameLife stands o k.life) (sym e) alike.life) in (y, h, sym f)
  blocker_to x (inr (inr (v, l, serve, e))) =
      let (m, it, same) = agree.to v l serve in
      let (y, f, h) = as_without stands x m.life (subst (λ k. IsSameLife stands k m.life) e same.life) in
      (y, h, inr (inr (v, m, it, f)))

  -- the one that stands for a member breaks it where the member does
  pub blocker_at : (x : A) (y : B) → stands x y → IsBlocker c n a b x → IsBlocker d n p q y
  blocker_at x y is blocks = let (z, other, it) = blocker_to x blocks in subst (IsBlocker d n p q) (one.one_right x z y other is) it

  -- ---- what serves it with one life

  pub serves_as_to : (life : Lifetime A) (other : Lifetime B) → IsSameLife stands life other → (v : VersionId) → ServesAs c n a b life v
      → ServesAs d n p q other v
  serves_as_to life other is v (l, serve, e) = let (m, it, same) = agree.to v l serve in (m, it, life_to stands one l.life life m.life other same.life is e)

  -- whoever takes a serving version away stands for another
  takes_to : (x : A) (v : VersionId) → ServesAs c n a b (Without x) v → (y : B) × stands x y
  takes_to x v (l, serve, e) =
      let (m, it, same) = agree.to v l serve in
      let (y, f, h) = as_without stands x m.life (subst (λ k. IsSameLife stands k m.life) e same.life) in
      (y, h)

  pub both_to : (x : A) (y : B) → stands x y → HasBoth c n a b x → HasBoth d n p q y
  both_to x y is ((v, h), (w, k)) = ((v, serves_as_to (Without x) (Without y) is v h), (w, serves_as_to (With x) (With y) is w k))

  pub who_has_both : (x : A) → HasBoth c n a b x → (y : B) × stands x y
  who_has_both x ((v, h), k) = takes_to x v h

-- what is picked ------------------------------------------------------------------------------------

module _ {A B : Type 0} (before : A → A → Type 0) (earlier : B → B → Type 0) (c : Setting A) (d : Setting B) (stands : A → B → Type 0) (one : IsOneToOne stands)
    (order : IsInOneOrder before earlier stands) (n : Need)
    (a : Lived A) (b : Option (Lived A)) (p : Lived B) (q : Option (Lived B)) (agree : Agree c d stands n a b p q) where
  abbrev other : Agree d c (other_way stands) n p q a b
  other = turned_round stands c d n a b p q agree

  abbrev other_one : IsOneToOne (other_way stands)
  other_one = turned_one stands one

  none_alone : ((u : VersionId) → ¬ (CoversAlone c n a b u)) → (u : VersionId) → ¬ (CoversAlone d n p q u)
  none_alone none u h = none u (alone_to d c (other_way stands) other_one n p q a b other u h)

  least_served : (life : Lifetime A) (k : Lifetime B) → IsSameLife stands life k → IsSameLife (other_way stands) k life → (v : VersionId)
      → IsLeastVersion (ServesAs c n a b life) v
      → IsLeastVersion (ServesAs d n p q k) v
  least_served life k is turned v = least_as (ServesAs c n a b life) (ServesAs d n p q k) v
      (serves_as_to c d stands one n a b p q agree life k is)
      (serves_as_to d c (other_way stands) other_one n p q a b other k life turned)

  both_back : (y : B) → HasBoth d n p q y → (x : A) × stands x y × HasBoth c n a b x
  both_back y h =
      let (x, is) = who_has_both d c (other_way stands) other_one n p q a b other y h in
      (x, is, both_to d c (other_way stands) other_one n p q a b other y x is h)

  pub pick_to : (pick : Option (VersionId × Option VersionId)) → IsPickBy before c n a b pick → IsPickBy earlier d n p q pick
  pick_to None (none, both) = (none_alone none, λ y h. (let (x, is, k) = both_back y h in both x k))
  pick_to (Some (v, None)) least = least_as (CoversAlone c n a b) (CoversAlone d n p q) v
      (alone_to c d stands one n a b p q agree)
      (alone_to d c (other_way stands) other_one n p q a b other)
      least
  pick_to (Some (v, Some w)) (none, (x, both, first, taken, brought)) =
      let (y, is) = who_has_both c d stands one n a b p q agree x both in (
        none_alone none,
        (
          y,
          both_to c d stands one n a b p q agree x y is both,
          λ z less h. (let (k, is_k, both_k) = both_back z h in first k (order.falling k x z y is_k is less) both_k),
          least_served (Without x) (Without y) is is v taken,
          least_served (With x) (With y) is is w brought,
        ),
      )
