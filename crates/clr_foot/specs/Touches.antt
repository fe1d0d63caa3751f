-- Versions near one another, and the needs that they make.
use Rattle.std.specs.Prelude.{◌≡◌, ℕ, Bool, true, false, not, ◌&&◌, ◌||◌, ◌==◌, ◌⊎◌, List, Option, Some, None, Contains, slice_get}
use Rattle.std.specs.List.Sorted.{IsStrictlySortedBy}
use Rattle.std.specs.Option.{option_map}
use Rattle.clr_rows.specs.declared.cells.CellId.{CellId}
use Rattle.clr_rows.specs.Held.{Held}
use Rattle.clr_rules.specs.declared.rules.Rule.{Rule}
use Rattle.clr_rules.specs.declared.sides.Side.{Side}
use Rattle.clr_rules.specs.declared.needs.Ask.{Ask}
use Rattle.clr_rules.specs.Calls.{serves}
use Rattle.clr_rules.specs.Sides.{sides}
use Rattle.clr_spots.specs.Spots.{are_sharing}
use Rattle.clr_finders.specs.Sharing.{may_serve_under}
use Rattle.clr_needs.specs.declared.needs.Need.{Need}
use Rattle.clr_needs.specs.declared.needs.VersionId.{VersionId}
use Rattle.clr_row_versions.specs.declared.versions.Version.{Version}
use Rattle.clr_row_versions.specs.Candidates.{IsNeedAmong, IsNeedBesideOld, IsNeedOf, IsNeedServedBy}
use Rattle.clr_row_versions.specs.Gains.{IsListedOrPassed}
use Rattle.clr_new_pairs.specs.NewPairs.{Passes}
use Rattle.clr_needs.specs.Broken.{is_living}
use Rattle.clr_needs.specs.Needs.{IsTouched}
use Rattle.clr_needs.specs.Orders.{need_cmp}
use Rattle.clr_needs.specs.Settings.{Setting, Lived, held_row, version}
use Rattle.clr_row_versions.specs.Versions.{row_and_life, row_of}

abbrev pub IsInCells : List CellId → Held → Type 0
IsInCells cells s = Contains cells s.0

-- there is a side, and the cell is of its table
abbrev pub is_of_table : Option Side → CellId → Bool
is_of_table None q = false
is_of_table (Some side) q = side.table == q.table

abbrev pub has_subjects_in : Option Rule → CellId → Bool
has_subjects_in None q = false
has_subjects_in (Some rule) q = is_of_table (sides rule).alone q || is_of_table (sides rule).first q || is_of_table (sides rule).second q

-- the cell is of a table whose rows may be subjects of the rule of a number
unfoldable pub may_be_subject : List Rule → ℕ → CellId → Bool
may_be_subject rules number q = has_subjects_in (slice_get rules number) q

-- the row at the cell is looked up, where servers alone are looked for or else subjects
abbrev pub is_looked_up : Bool → List Rule → ℕ → CellId → Bool
is_looked_up servers rules number q = servers || may_be_subject rules number q

abbrev pub IsLookedUpIn : Bool → List Rule → ℕ → List CellId → Held → Type 0
IsLookedUpIn servers rules number cells s = Contains cells s.0 × (is_looked_up servers rules number s.0 ≡ true)

-- the row shares with another one. Where servers alone are looked for it is of the side that serves, or else it may be a subject
abbrev pub IsNeighbour : Bool → List Rule → ℕ → Held → Held → Type 0
IsNeighbour servers rules number s t = ((are_sharing rules number s t && (not servers || may_serve_under rules number t)) ≡ true)
    × (is_looked_up servers rules number t.0 ≡ true)

-- a need of one of some versions, alone or with another, that the server serves
abbrev pub IsNeedServedAmong : List Rule → ℕ → Version → List Version → List Version → Need → Type 0
IsNeedServedAmong rules number r firsts near n =
    (s : Version) × Contains firsts s × (IsNeedOf rules number (Some r) s None n ⊎ IsNeedAmong rules number (Some r) s near n)

-- a need with a new version, beside no other new one
abbrev pub IsNeedOfNew : Setting ℕ → ℕ → Version → Need → Type 0
IsNeedOfNew c number v n = IsNeedBesideOld c number v.id n

-- a need that a version serves which a member changes
abbrev pub IsNeedOfChanged : Setting ℕ → ℕ → Version → Need → Type 0
IsNeedOfChanged c number v n = (is_living (row_and_life v).life ≡ false) × IsNeedServedBy c number v.id n

-- a touched need of one rule
abbrev pub IsTouchedOf : Setting ℕ → ℕ → Need → Type 0
IsTouchedOf c number n = IsTouched c n × (n.rule ≡ number)

-- a version that serves what is asked of two others
abbrev pub IsServerOf : Setting ℕ → Ask → Version → Option Version → VersionId → Type 0
IsServerOf c ask s t v = (l : Lived ℕ) × (version c v ≡ Some l) × (serves c.rules ask (row_of s) (option_map row_of t) (held_row v l) ≡ true)

-- touched needs, ascending: all of them, but for those that a listed one passes
pub record ListsTouched (c : Setting ℕ) (leaves_out : Bool) (needs : List Need) : Type 0 where
  pub ascending : IsStrictlySortedBy need_cmp needs
  pub only : (n : Need) → Contains needs n → IsTouched c n
  pub every : (n : Need) → IsTouched c n → IsListedOrPassed (Passes c.rules leaves_out) needs n
