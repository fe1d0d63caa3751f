-- Needs by which a member touches something, and needs that may tie it to another member.
use Rattle.std.specs.Prelude.{◌≡◌, ◌⊎◌, ℕ, Bool, true, false, List, Some, Contains}
use Rattle.std.specs.Option.{is_some}
use Rattle.clr_rows.specs.declared.cells.CellId.{CellId}
use Rattle.clr_rows.specs.Held.{Held}
use Rattle.clr_needs.specs.declared.needs.Need.{Need}
use Rattle.clr_needs.specs.declared.needs.VersionId.{VersionId}
use Rattle.clr_needs.specs.Independence.{Names}
use Rattle.clr_needs.specs.Needs.{IsChanged, IsTouched}
use Rattle.clr_needs.specs.Settings.{Setting, Lived, changer, version}
use Rattle.clr_row_versions.specs.declared.versions.Version.{Version}
use Rattle.clr_row_versions.specs.Candidates.{IsNeedServedBy, IsNeedWith}
use Rattle.clr_row_versions.specs.Versions.{AreAt, HasVersion, row_and_life}
use Rattle.clr_foot.specs.declared.ties.TieKind.{TieKind}
use Rattle.clr_foot.specs.declared.ties.TieKind.TheVariants.{Any, Touching, Other}
use Rattle.clr_foot.specs.Involvement.{IsInvolving}
use Rattle.clr_foot.specs.Touches.{IsNeighbour}

-- the cell that is given, where a member changes it
abbrev pub IsChangedCell : Setting ℕ → CellId → CellId → Type 0
IsChangedCell c p q = (q ≡ p) × (is_some (changer c p) ≡ true)

-- the row shares with another one and may be a subject, and a member changes its cell
abbrev pub IsChangedNeighbour : Setting ℕ → ℕ → Held → Held → Type 0
IsChangedNeighbour c number s t = IsNeighbour false c.rules number s t × (is_some (changer c t.0) ≡ true)

-- there is a version of the name, and a member changes it
abbrev pub IsChangedVersion : Setting ℕ → VersionId → Type 0
IsChangedVersion c v = (l : Lived ℕ) × (version c v ≡ Some l) × IsChanged l.life

-- the need has two subjects, and members change both
abbrev pub HasChangedSubjects : Setting ℕ → Need → Type 0
HasChangedSubjects c n = IsChangedVersion c n.first × ((w : VersionId) × (n.second ≡ Some w) × IsChangedVersion c w)

abbrev pub IsNeedOfChangedSubjects : Setting ℕ → ℕ → VersionId → Need → Type 0
IsNeedOfChangedSubjects c number v n = IsNeedWith c number v n × HasChangedSubjects c n

-- The needs of a version, new or old: all with it as a subject or a server; those by which its member touches something, which are those of
-- a new subject and those that an old version serves; and others that may tie its member, those that a new version serves and those of two
-- changed subjects.
abbrev pub IsTie : TieKind → Bool → Setting ℕ → ℕ → VersionId → Need → Type 0
IsTie Any fresh c number v n = IsNeedWith c number v n ⊎ IsNeedServedBy c number v n
IsTie Touching true c number v n = IsNeedWith c number v n
IsTie Touching false c number v n = IsNeedServedBy c number v n
IsTie Other true c number v n = IsNeedServedBy c number v n
IsTie Other false c number v n = IsNeedOfChangedSubjects c number v n

-- one of a version whose life names the member
abbrev pub IsTieOf : TieKind → Setting ℕ → ℕ → ℕ → Version → Need → Type 0
IsTieOf kind c number x v n = Names (row_and_life v).life x × IsTie kind v.id.fresh c number v.id n

-- the need involves the member, and where needs by which it touches something are listed, it is touched
abbrev pub MayTie : TieKind → Setting ℕ → ℕ → Need → Type 0
MayTie Any c x n = IsInvolving c x n
MayTie Touching c x n = IsInvolving c x n × IsTouched c n
MayTie Other c x n = IsInvolving c x n

-- needs that involve the member, among them those of each version whose life names it
pub record FindsTies (kind : TieKind) (c : Setting ℕ) (x : ℕ) (needs : List Need) : Type 0 where
  pub only : (n : Need) → Contains needs n → MayTie kind c x n
  pub every : (n : Need) (v : VersionId) (l : Lived ℕ) → version c v ≡ Some l → Names l.life x → IsTie kind v.fresh c n.rule v n → Contains needs n

-- the versions whose life names the member are among some
pub record AreVersionsOf (c : Setting ℕ) (x : ℕ) (versions : List Version) : Type 0 where
  pub are : AreAt c versions
  pub every : (v : VersionId) (l : Lived ℕ) → version c v ≡ Some l → Names l.life x → HasVersion versions v

-- the same needs of some versions
pub record AreTiesOf (kind : TieKind) (c : Setting ℕ) (x : ℕ) (versions : List Version) (needs : List Need) : Type 0 where
  pub only : (n : Need) → Contains needs n → MayTie kind c x n
  pub every : (n : Need) (v : Version) → Contains versions v → IsTieOf kind c n.rule x v n → Contains needs n
