-- Who helps a need and who blocks it: it is covered where a helper is a blocker or goes before one.
use Rattle.std.specs.Prelude.{◌≡◌, true, List, Option, ◌⊎◌}
use Rattle.clr_needs.specs.declared.needs.Need.{Need}
use Rattle.clr_needs.specs.declared.needs.VersionId.{VersionId}
use Rattle.clr_needs.specs.Covers.{IsBlocker, IsLifeOf}
use Rattle.clr_needs.specs.Needs.{Serves}
use Rattle.clr_needs.specs.Settings.{Setting, Always, With, Without, Lived, AreAmong, has}
use Rattle.clr_ordered_needs.specs.Turns.{Order, IsUpTo}

-- a member that takes a subject away, or brings a serving version
abbrev pub IsHelper : {A : Type 0} → Setting A → Need → Lived A → Option (Lived A) → A → Type 0
IsHelper {A} c n a b x = (a.life ≡ Without x) ⊎ (IsLifeOf (Without x) b ⊎ ((v : VersionId) × (l : Lived A) × Serves c n a b v l × (l.life ≡ With x)))

-- some serving version lives always
abbrev pub IsServedAlways : {A : Type 0} → Setting A → Need → Lived A → Option (Lived A) → Type 0
IsServedAlways {A} c n a b = (v : VersionId) × (l : Lived A) × Serves c n a b v l × (l.life ≡ Always)

-- some helper is a blocker, or goes before one
abbrev pub HelpComesFirst : {A : Type 0} → Order A → Setting A → Need → Lived A → Option (Lived A) → Type 0
HelpComesFirst {A} before c n a b = (x y : A) × IsHelper c n a b x × IsBlocker c n a b y × IsUpTo before x y

-- the member is a blocker, or goes before one
abbrev pub IsUpToBlocker : {A : Type 0} → Order A → Setting A → Need → Lived A → Option (Lived A) → A → Type 0
IsUpToBlocker {A} before c n a b x = (y : A) × IsBlocker c n a b y × IsUpTo before x y

-- the members are exactly the blockers and those that go before them
pub record AreUpToBlockers {A : Type 0} (before : Order A) (c : Setting A) (n : Need) (a : Lived A) (b : Option (Lived A)) (ts : List A) : Type 0 where
  pub part : AreAmong c ts c.members
  pub only : (x : A) → has c.same ts x ≡ true → IsUpToBlocker before c n a b x
  pub every : (x : A) → has c.same c.members x ≡ true → IsUpToBlocker before c n a b x → has c.same ts x ≡ true
