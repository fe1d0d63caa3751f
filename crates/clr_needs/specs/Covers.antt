-- What covers a need, and which members break one that nothing covers.
use Rattle.std.specs.Prelude.{◌≡◌, true, List, [], ◌∷◌, Option, Some, None, ◌⊎◌}
use Rattle.clr_needs.specs.declared.needs.Need.{Need}
use Rattle.clr_needs.specs.declared.needs.VersionId.{VersionId}
use Rattle.clr_needs.specs.Needs.{AreOpposed, IsPossible, IsTouchedBy, Serves}
use Rattle.clr_needs.specs.Settings.{Setting, Lifetime, Always, With, Without, Lived, AreAmong, has}

abbrev pub IsLifeOf : {A : Type 0} → Lifetime A → Option (Lived A) → Type 0
IsLifeOf l None = ⊥
IsLifeOf l (Some b) = l ≡ b.life

-- the life is Always, or that of a subject
abbrev pub Lasts : {A : Type 0} → Lifetime A → Lived A → Option (Lived A) → Type 0
Lasts l a b = (l ≡ Always) ⊎ ((l ≡ a.life) ⊎ IsLifeOf l b)

-- a serving version that stands wherever the subjects do
abbrev pub CoversAlone : {A : Type 0} → Setting A → Need → Lived A → Option (Lived A) → VersionId → Type 0
CoversAlone {A} c n a b v = (l : Lived A) × Serves c n a b v l × Lasts l.life a b

-- two serving versions, one of which stands whatever is merged
abbrev pub CoverTogether : {A : Type 0} → Setting A → Need → Lived A → Option (Lived A) → VersionId → VersionId → Type 0
CoverTogether {A} c n a b v w = (l m : Lived A) × Serves c n a b v l × Serves c n a b w m × AreOpposed l.life m.life

-- one or two versions cover a need
abbrev pub WitnessesCover : {A : Type 0} → Setting A → Need → Lived A → Option (Lived A) → VersionId → Option VersionId → Type 0
WitnessesCover c n a b v None = CoversAlone c n a b v
WitnessesCover c n a b v (Some w) = CoversAlone c n a b v ⊎ (CoversAlone c n a b w ⊎ CoverTogether c n a b v w)

-- a need with its witnesses
abbrev pub Entry : Type 0
Entry = Need × VersionId × Option VersionId

-- one of the entries covers a need
abbrev pub HasEntry : {A : Type 0} → Setting A → Need → Lived A → Option (Lived A) → List Entry → Type 0
HasEntry c n a b [] = ⊥
HasEntry c n a b (e ∷ es) = ((e.0 ≡ n) × WitnessesCover c n a b e.1 e.2) ⊎ HasEntry c n a b es

-- each touched need is covered
abbrev pub AreCovered : {A : Type 0} → Setting A → List Entry → Type 0
AreCovered {A} c es = (n : Need) (a : Lived A) (b : Option (Lived A)) → IsPossible c n a b → IsTouchedBy c n a b → HasEntry c n a b es

-- a need that nothing covers -----------------------------------------------------------------

pub record IsUncovered {A : Type 0} (c : Setting A) (n : Need) (a : Lived A) (b : Option (Lived A)) : Type 0 where
  pub possible : IsPossible c n a b
  pub not_alone : (v : VersionId) → CoversAlone c n a b v → ⊥
  pub not_together : (v w : VersionId) → CoverTogether c n a b v w → ⊥

abbrev pub IsUncoveredNeed : {A : Type 0} → Setting A → Need → Type 0
IsUncoveredNeed {A} c n = (a : Lived A) × (b : Option (Lived A)) × IsUncovered c n a b

-- a member that brings a subject, or takes a serving version away
abbrev pub IsBlocker : {A : Type 0} → Setting A → Need → Lived A → Option (Lived A) → A → Type 0
IsBlocker {A} c n a b x = (a.life ≡ With x) ⊎ (IsLifeOf (With x) b ⊎ ((v : VersionId) × (l : Lived A) × Serves c n a b v l × (l.life ≡ Without x)))

-- the members are exactly the blockers
pub record AreBlockers {A : Type 0} (c : Setting A) (n : Need) (a : Lived A) (b : Option (Lived A)) (ts : List A) : Type 0 where
  pub part : AreAmong c ts c.members
  pub only : (x : A) → has c.same ts x ≡ true → IsBlocker c n a b x
  pub every : (x : A) → has c.same c.members x ≡ true → IsBlocker c n a b x → has c.same ts x ≡ true
