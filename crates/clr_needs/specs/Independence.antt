-- Members that no possible need ties to one another.
use Rattle.std.specs.Prelude.{◌≡◌, Bool, true, false, Option, Some, None, ◌⊎◌}
use Rattle.clr_needs.specs.declared.needs.Need.{Need}
use Rattle.clr_needs.specs.declared.needs.VersionId.{VersionId}
use Rattle.clr_needs.specs.Needs.{IsPossible, Serves}
use Rattle.clr_needs.specs.Settings.{Setting, Lifetime, Always, With, Without, Lived}

-- a life names a member
abbrev pub Names : {A : Type 0} → Lifetime A → A → Type 0
Names Always x = ⊥
Names (With n) x = n ≡ x
Names (Without n) x = n ≡ x

abbrev pub NamesIfAny : {A : Type 0} → Option (Lived A) → A → Type 0
NamesIfAny None x = ⊥
NamesIfAny (Some b) x = Names b.life x

-- the life of a subject, or of a version that serves, names the member
abbrev pub Involves : {A : Type 0} → Setting A → Need → Lived A → Option (Lived A) → A → Type 0
Involves {A} c n a b x = Names a.life x ⊎ (NamesIfAny b x ⊎ ((v : VersionId) × (l : Lived A) × Serves c n a b v l × Names l.life x))

-- some possible need involves both members
abbrev pub AreDependent : {A : Type 0} → Setting A → A → A → Type 0
AreDependent {A} c x y = (n : Need) × (a : Lived A) × (b : Option (Lived A)) × IsPossible c n a b × Involves c n a b x × Involves c n a b y

-- whether no possible need involves both members
abbrev pub IsIndependence : {A : Type 0} → Setting A → A → A → Bool → Type 0
IsIndependence c x y true = ¬ (AreDependent c x y)
IsIndependence c x y false = AreDependent c x y
