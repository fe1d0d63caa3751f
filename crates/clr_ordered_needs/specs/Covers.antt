-- What covers a need where some members go before others. The words are those of clr_needs, with who goes before whom in front.
use Rattle.std.specs.Prelude.{◌≡◌, List, [], ◌∷◌, Option, Some, None, ⊤, ◌⊎◌}
use Rattle.clr_needs.specs.declared.needs.Need.{Need}
use Rattle.clr_needs.specs.declared.needs.VersionId.{VersionId}
use Rattle.clr_needs.specs.Covers.{Entry}
use Rattle.clr_needs.specs.Needs.{IsPossible, IsTouchedBy, Serves}
use Rattle.clr_needs.specs.Settings.{Setting, Lifetime, Always, With, Without, Lived}
use Rattle.clr_ordered_needs.specs.Turns.{Order, IsUpTo}

-- lives, where members come in turn ------------------------------------------------------------

-- the first life goes on while the second does
abbrev pub LastsWhile : {A : Type 0} → Order A → Lifetime A → Lifetime A → Type 0
LastsWhile before Always _ = ⊤
LastsWhile before (With n) (With p) = IsUpTo before n p
LastsWhile before (Without p) (Without n) = IsUpTo before n p
LastsWhile before _ _ = ⊥

-- the two lives never go on both: one begins with a member, and the other has ended by then, with the same member or with one that goes before it
abbrev pub NeverBothLive : {A : Type 0} → Order A → Lifetime A → Lifetime A → Type 0
NeverBothLive before (With p) (Without n) = IsUpTo before n p
NeverBothLive before (Without n) (With p) = IsUpTo before n p
NeverBothLive before _ _ = ⊥

-- of the two lives one always goes on: one ends with a member, and the other has begun by then, with the same member or with one that goes before it
abbrev pub OneAlwaysLives : {A : Type 0} → Order A → Lifetime A → Lifetime A → Type 0
OneAlwaysLives before (With n) (Without p) = IsUpTo before n p
OneAlwaysLives before (Without p) (With n) = IsUpTo before n p
OneAlwaysLives before _ _ = ⊥

abbrev pub LastsWhileIfAny : {A : Type 0} → Order A → Lifetime A → Option (Lived A) → Type 0
LastsWhileIfAny before l None = ⊥
LastsWhileIfAny before l (Some b) = LastsWhile before l b.life

-- the life goes on while a subject stands
abbrev pub Lasts : {A : Type 0} → Order A → Lifetime A → Lived A → Option (Lived A) → Type 0
Lasts before l a b = LastsWhile before l a.life ⊎ LastsWhileIfAny before l b

-- the subjects of a need never stand together
abbrev pub SubjectsNeverMeet : {A : Type 0} → Order A → Lived A → Option (Lived A) → Type 0
SubjectsNeverMeet before a None = ⊥
SubjectsNeverMeet before a (Some b) = NeverBothLive before a.life b.life

-- covers ---------------------------------------------------------------------------------------

-- a serving version that stands wherever the subjects do
abbrev pub CoversAlone : {A : Type 0} → Order A → Setting A → Need → Lived A → Option (Lived A) → VersionId → Type 0
CoversAlone {A} before c n a b v = (l : Lived A) × Serves c n a b v l × Lasts before l.life a b

-- two serving versions, one of which stands whatever is merged in turn
abbrev pub CoverTogether : {A : Type 0} → Order A → Setting A → Need → Lived A → Option (Lived A) → VersionId → VersionId → Type 0
CoverTogether {A} before c n a b v w = (l m : Lived A) × Serves c n a b v l × Serves c n a b w m × OneAlwaysLives before l.life m.life

-- one or two versions cover a need
abbrev pub WitnessesCover : {A : Type 0} → Order A → Setting A → Need → Lived A → Option (Lived A) → VersionId → Option VersionId → Type 0
WitnessesCover before c n a b v None = CoversAlone before c n a b v
WitnessesCover before c n a b v (Some w) = CoversAlone before c n a b v ⊎ (CoversAlone before c n a b w ⊎ CoverTogether before c n a b v w)

-- one of the entries covers a need
abbrev pub HasEntry : {A : Type 0} → Order A → Setting A → Need → Lived A → Option (Lived A) → List Entry → Type 0
HasEntry before c n a b [] = ⊥
HasEntry before c n a b (e ∷ es) = ((e.0 ≡ n) × WitnessesCover before c n a b e.1 e.2) ⊎ HasEntry before c n a b es

-- each touched need has an entry that covers it, or its subjects never stand together
abbrev pub AreCovered : {A : Type 0} → Order A → Setting A → List Entry → Type 0
AreCovered {A} before c es = (n : Need) (a : Lived A) (b : Option (Lived A)) → IsPossible c n a b → IsTouchedBy c n a b
    → SubjectsNeverMeet before a b ⊎ HasEntry before c n a b es

-- some versions cover the need, or its subjects never stand together
abbrev pub HasCover : {A : Type 0} → Order A → Setting A → Need → Lived A → Option (Lived A) → Type 0
HasCover before c n a b = SubjectsNeverMeet before a b ⊎ ((v : VersionId) × (w : Option VersionId) × WitnessesCover before c n a b v w)

abbrev pub EachHasCover : {A : Type 0} → Order A → Setting A → Type 0
EachHasCover {A} before c = (n : Need) (a : Lived A) (b : Option (Lived A)) → IsPossible c n a b → IsTouchedBy c n a b → HasCover before c n a b

-- a need that nothing covers ---------------------------------------------------------------------

-- a touched need that nothing covers, and whose subjects can stand together
pub record IsUncovered {A : Type 0} (before : Order A) (c : Setting A) (n : Need) (a : Lived A) (b : Option (Lived A)) : Type 0 where
  pub possible : IsPossible c n a b
  pub touched : IsTouchedBy c n a b
  pub no_cover : ¬ (HasCover before c n a b)

abbrev pub IsUncoveredNeed : {A : Type 0} → Order A → Setting A → Need → Type 0
IsUncoveredNeed {A} before c n = (a : Lived A) × (b : Option (Lived A)) × IsUncovered before c n a b
