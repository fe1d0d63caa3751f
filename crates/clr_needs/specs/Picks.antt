-- The witnesses that a planner names for a need, and the members that break it.
use Rattle.std.specs.Prelude.{◌≡◌, ℕ, ◌<◌, List, Option, Some, None}
use Rattle.std.specs.Ordering.{nat_cmp}
use Rattle.std.specs.declared.cmp.Ordering.TheVariants.{Less}
use Rattle.clr_needs.specs.declared.needs.Need.{Need}
use Rattle.clr_needs.specs.declared.needs.VersionId.{VersionId}
use Rattle.clr_needs.specs.Covers.{CoversAlone, IsBlocker}
use Rattle.clr_needs.specs.Needs.{IsPossible, Lists, Serves}
use Rattle.clr_needs.specs.Orders.{version_cmp}
use Rattle.clr_needs.specs.Settings.{Setting, Lifetime, With, Without, Lived}

-- the least version of which P holds
abbrev pub IsLeastVersion : (VersionId → Type 0) → VersionId → Type 0
IsLeastVersion P v = P v × ((w : VersionId) → version_cmp w v ≡ Less → ¬ (P w))

-- the version serves the need, and has this life
abbrev pub ServesAs : {A : Type 0} → Setting A → Need → Lived A → Option (Lived A) → Lifetime A → VersionId → Type 0
ServesAs {A} c n a b life v = (l : Lived A) × Serves c n a b v l × (l.life ≡ life)

-- a member takes a serving version away and brings another
abbrev pub HasBoth : {A : Type 0} → Setting A → Need → Lived A → Option (Lived A) → A → Type 0
HasBoth {A} c n a b x = ((v : VersionId) × ServesAs c n a b (Without x) v) × ((w : VersionId) × ServesAs c n a b (With x) w)

-- the least version that covers alone. If none does: of the first member that takes a serving version away and brings another, the least that it
-- takes away, and then the least that it brings. If no member does so: none
abbrev pub IsPickBy : {A : Type 0} → (A → A → Type 0) → Setting A → Need → Lived A → Option (Lived A) → Option (VersionId × Option VersionId) → Type 0
IsPickBy before c n a b (Some (v, None)) = IsLeastVersion (CoversAlone c n a b) v
IsPickBy {A} before c n a b (Some (v, Some w)) = ((u : VersionId) → ¬ (CoversAlone c n a b u))
    × ((x : A) × HasBoth c n a b x × ((y : A) → before y x → ¬ (HasBoth c n a b y))
    × IsLeastVersion (ServesAs c n a b (Without x)) v × IsLeastVersion (ServesAs c n a b (With x)) w)
IsPickBy {A} before c n a b None = ((u : VersionId) → ¬ (CoversAlone c n a b u)) × ((x : A) → ¬ (HasBoth c n a b x))

abbrev pub PicksBy : {A : Type 0} → (A → A → Type 0) → Setting A → Need → Option (VersionId × Option VersionId) → Type 0
PicksBy {A} before c n pick = (a : Lived A) (b : Option (Lived A)) → IsPossible c n a b → IsPickBy before c n a b pick

-- where members are positions, the lesser one comes before
abbrev pub IsLesser : ℕ → ℕ → Type 0
IsLesser y x = y < x

abbrev pub IsPick : Setting ℕ → Need → Lived ℕ → Option (Lived ℕ) → Option (VersionId × Option VersionId) → Type 0
IsPick c n a b pick = IsPickBy IsLesser c n a b pick

abbrev pub Picks : Setting ℕ → Need → Option (VersionId × Option VersionId) → Type 0
Picks c n pick = PicksBy IsLesser c n pick

-- exactly the members that break the need, ascending
abbrev pub Blocks : Setting ℕ → Need → List ℕ → Type 0
Blocks c n list = (a : Lived ℕ) (b : Option (Lived ℕ)) → IsPossible c n a b → Lists nat_cmp (IsBlocker c n a b) list
