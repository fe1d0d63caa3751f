-- Needs of versions that are held against one another, and which of them a touched need is found from.
use Rattle.std.specs.Prelude.{◌≡◌, ℕ, Bool, true, false, ◌&&◌, ◌||◌, ◌==◌, ◌⊎◌, List, Option, Some, None, Contains, slice_get}
use Rattle.std.specs.Option.{is_some, option_map}
use Rattle.std.specs.declared.cmp.Ordering.TheVariants.{Less}
use Rattle.clr_rows.specs.declared.cells.CellId.{CellId}
use Rattle.clr_rows.specs.Cells.{cell_cmp}
use Rattle.clr_rows.specs.Held.{Held}
use Rattle.clr_rules.specs.declared.needs.Ask.{Ask}
use Rattle.clr_rules.specs.declared.rules.Rule.{Rule}
use Rattle.clr_rules.specs.Calls.{calls, serves}
use Rattle.clr_rules.specs.Roles.{roles_under}
use Rattle.clr_rules.specs.Sides.{sides}
use Rattle.clr_needs.specs.declared.needs.Need.{Need}
use Rattle.clr_needs.specs.declared.needs.VersionId.{VersionId}
use Rattle.clr_row_versions.specs.declared.versions.Version.{Version}
use Rattle.clr_needs.specs.Needs.{AreOpposed, IsPossible, Serves, ask_of, is_fresh}
use Rattle.clr_needs.specs.Settings.{Setting, Lifetime, With, Without, Lived}
use Rattle.clr_row_versions.specs.Versions.{row_and_life, row_of, version_of}

abbrev pub are_opposed : Lifetime ℕ → Lifetime ℕ → Bool
are_opposed (With m) (Without n) = m == n
are_opposed (Without m) (With n) = m == n
are_opposed _ _ = false

-- the rule is asked of two rows
abbrev pub is_of_two : Rule → Bool
is_of_two rule = is_some (sides rule).second

abbrev pub is_of_two_by : Option Rule → Bool
is_of_two_by None = false
is_of_two_by (Some rule) = is_of_two rule

unfoldable pub is_of_two_under : List Rule → ℕ → Bool
is_of_two_under rules number = is_of_two_by (slice_get rules number)

-- the rule is asked of two rows, and the row is of a side of these
unfoldable pub may_be_paired : List Rule → ℕ → Held → Bool
may_be_paired rules number s = is_of_two_under rules number && ((roles_under rules number s).first || (roles_under rules number s).second)

abbrev pub id_of : Version → VersionId
id_of v = v.id

-- the server, where one is given, serves
abbrev pub serves_if_any : List Rule → Ask → Version → Option Version → Option Version → Bool
serves_if_any rules ask s t None = true
serves_if_any rules ask s t (Some r) = serves rules ask (row_of s) (option_map row_of t) (row_of r)

abbrev pub is_asked : List Rule → Ask → Option Version → Version → Option Version → Bool
is_asked rules ask r s t = serves_if_any rules ask s t r && calls rules ask (row_of s) (option_map row_of t)

-- a need that a rule asks of the subjects, in some parts
pub record IsNeedOf (rules : List Rule) (number : ℕ) (r : Option Version) (s : Version) (t : Option Version) (n : Need) : Type 0 where
  pub rule : n.rule ≡ number
  pub first : n.first ≡ s.id
  pub second : n.second ≡ option_map id_of t
  pub asked : is_asked rules (ask_of n) r s t ≡ true

-- in one part of the first
pub record IsNeedOfPart (rules : List Rule) (number : ℕ) (r : Option Version) (s t : Version) (from : ℕ) (n : Need) : Type 0 where
  pub need : IsNeedOf rules number r s (Some t) n
  pub part : n.first_part ≡ from

-- in one part of each
pub record IsNeedOfAsk (rules : List Rule) (ask : Ask) (r : Option Version) (s t : Version) (n : Need) : Type 0 where
  pub need : IsNeedOf rules ask.rule r s (Some t) n
  pub is : ask_of n ≡ ask

-- one version before another
pub record IsNeedBetween (rules : List Rule) (number : ℕ) (r : Option Version) (s t : Version) (n : Need) : Type 0 where
  pub ascending : cell_cmp s.id.cell t.id.cell ≡ Less
  pub not_opposed : ¬ (AreOpposed (row_and_life s).life (row_and_life t).life)
  pub need : IsNeedOf rules number r s (Some t) n

abbrev pub IsNeedOfPair : List Rule → ℕ → Option Version → Version → Version → Need → Type 0
IsNeedOfPair rules number r s t n = IsNeedBetween rules number r s t n ⊎ IsNeedBetween rules number r t s n

-- with one of some others
abbrev pub IsNeedAmong : List Rule → ℕ → Option Version → Version → List Version → Need → Type 0
IsNeedAmong rules number r s others n = (t : Version) × Contains others t × IsNeedOfPair rules number r s t n

-- the name of one of some versions that serves
abbrev pub IsServerAmong : List Rule → Ask → Version → Option Version → List Version → VersionId → Type 0
IsServerAmong rules ask s t others v = (r : Version) × Contains others r × (r.id ≡ v) × (serves rules ask (row_of s) (option_map row_of t) (row_of r) ≡ true)

-- by versions of a setting -------------------------------------------------------------------

abbrev pub IsSubject : Need → VersionId → Type 0
IsSubject n v = (n.first ≡ v) ⊎ (n.second ≡ Some v)

-- a possible need with this subject
abbrev pub IsNeedWith : Setting ℕ → ℕ → VersionId → Need → Type 0
IsNeedWith c number v n = (n.rule ≡ number) × IsSubject n v × (a : Lived ℕ) × (b : Option (Lived ℕ)) × IsPossible c n a b

-- a possible need that this version serves
abbrev pub IsNeedServedBy : Setting ℕ → ℕ → VersionId → Need → Type 0
IsNeedServedBy c number v n = (n.rule ≡ number) × (a : Lived ℕ) × (b : Option (Lived ℕ)) × (l : Lived ℕ) × IsPossible c n a b × Serves c n a b v l

-- one that hasn't two new subjects
abbrev pub IsNeedBesideOld : Setting ℕ → ℕ → VersionId → Need → Type 0
IsNeedBesideOld c number v n = IsNeedWith c number v n × ((n.first.fresh && is_fresh n.second) ≡ false)

-- with the new version of a cell beside no other new one, or served by its old version
abbrev pub IsNeedAt : Setting ℕ → ℕ → CellId → Need → Type 0
IsNeedAt c number q n = IsNeedBesideOld c number (version_of true q) n ⊎ IsNeedServedBy c number (version_of false q) n
