-- Lives where some of the members are left out: what one of them changes lives always there, and what it brings isn't there.
use Rattle.std.proofs.Common.{◌≡◌, refl, subst, Option, Some, None}
use Rattle.std.specs.Prelude.{⊤}
use Rattle.clr_needs.specs.Independence.{Names, NamesIfAny}
use Rattle.clr_needs.specs.Renamings.{IsSameLife, IsSameVersion, IsSameVersionIfAny}
use Rattle.clr_needs.specs.Settings.{Lifetime, Always, With, Without, Lived}

-- members of the part, and those of the whole for whom they stand
module _ {A B : Type 0} (stands : A → B → Type 0) where
  abbrev pub IsInside : B → Type 0
  IsInside y = (x : A) × stands x y

  -- each member that a life names is one of the part
  abbrev pub AreInside : Lifetime B → Type 0
  AreInside m = (y : B) → Names m y → IsInside y

  -- a version's life in the whole and in the part: the same, or Always in place of Without a member outside
  abbrev pub IsLifeIn : Lifetime A → Lifetime B → Type 0
  IsLifeIn Always Always = ⊤
  IsLifeIn Always (Without y) = ¬ (IsInside y)
  IsLifeIn (With x) (With y) = stands x y
  IsLifeIn (Without x) (Without y) = stands x y
  IsLifeIn _ _ = ⊥

  -- the life of a version which a member outside brings
  abbrev pub IsHidden : Lifetime B → Type 0
  IsHidden (With y) = ¬ (IsInside y)
  IsHidden _ = ⊥

  pub record IsVersionIn (l : Lived A) (m : Lived B) : Type 0 where
    pub row : l.row ≡ m.row
    pub life : IsLifeIn l.life m.life

  -- a second subject in the part and in the whole, where there is one
  abbrev pub IsSecondIn : Option (Lived A) → Option (Lived B) → Type 0
  IsSecondIn None None = ⊤
  IsSecondIn None (Some m) = ⊥
  IsSecondIn (Some l) None = ⊥
  IsSecondIn (Some l) (Some m) = IsVersionIn l m

  -- what the part has under the name of a version of the whole
  abbrev pub IsVersionOfPart : Option (Lived A) → Option (Lived B) → Type 0
  IsVersionOfPart None None = ⊤
  IsVersionOfPart None (Some m) = IsHidden m.life
  IsVersionOfPart (Some l) None = ⊥
  IsVersionOfPart (Some l) (Some m) = IsVersionIn l m

  -- ---- where all whom a life names are inside, it is the same

  pub same_inside : (l : Lifetime A) (m : Lifetime B) → IsLifeIn l m → AreInside m → IsSameLife stands l m
  same_inside Always Always h inside = tt
  same_inside Always (Without y) h inside = absurd (h (inside y refl))
  same_inside (With x) (With y) h inside = h
  same_inside (Without x) (Without y) h inside = h
  same_inside _ _ h inside = absurd h

  not_hidden : (m : Lifetime B) → IsHidden m → AreInside m → ⊥
  not_hidden (With y) h inside = h (inside y refl)
  not_hidden _ h inside = h

  pub same_version : (l : Option (Lived A)) (m : Option (Lived B)) → IsVersionOfPart l m → ((k : Lived B) → m ≡ Some k → AreInside k.life)
      → IsSameVersionIfAny stands l m
  same_version None None h inside = tt
  same_version None (Some m) h inside = absurd (not_hidden m.life h (inside m refl))
  same_version (Some l) None h inside = absurd h
  same_version (Some l) (Some m) h inside = record { row = h.row; life = same_inside l.life m.life h.life (inside m refl) }

  -- ---- the lives of the part are lives in the whole

  life_in : (l : Lifetime A) (m : Lifetime B) → IsSameLife stands l m → IsLifeIn l m
  life_in Always Always same = tt
  life_in (With x) (With y) same = same
  life_in (Without x) (Without y) same = same
  life_in _ _ same = absurd same

  pub version_in : (l : Lived A) (m : Lived B) → IsSameVersion stands l m → IsVersionIn l m
  version_in l m same = record { row = same.row; life = life_in l.life m.life same.life }

  pub second_in : (b : Option (Lived A)) (q : Option (Lived B)) → IsSameVersionIfAny stands b q → IsSecondIn b q
  second_in None None same = tt
  second_in None (Some m) same = absurd same
  second_in (Some l) None same = absurd same
  second_in (Some l) (Some m) same = version_in l m same

  -- ---- whom a life in the part names stands for whom that in the whole names

  pub names_up : (l : Lifetime A) (m : Lifetime B) (x : A) → IsLifeIn l m → Names l x → (y : B) × stands x y × Names m y
  names_up (With k) (With y) x h e = (y, subst (λ z. stands z y) e h, refl)
  names_up (Without k) (Without y) x h e = (y, subst (λ z. stands z y) e h, refl)
  names_up Always m x h e = absurd e
  names_up (With k) _ x h e = absurd h
  names_up (Without k) _ x h e = absurd h

  pub second_names_up : (b : Option (Lived A)) (q : Option (Lived B)) (x : A) → IsSecondIn b q → NamesIfAny b x → (y : B) × stands x y × NamesIfAny q y
  second_names_up None q x h e = absurd e
  second_names_up (Some l) None x h e = absurd h
  second_names_up (Some l) (Some m) x h e = names_up l.life m.life x h.life e
