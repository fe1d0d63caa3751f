-- Needs of two new versions: of parts, of parts that are filed, and of versions by their positions in a list.
use Rattle.std.specs.Prelude.{◌≡◌, ◌<◌, ◌≤◌, ℕ, Bool, true, false, not, ◌⊎◌, List, Option, None, Some, Contains, slice_get}
use Rattle.std.specs.Option.{is_some}
use Rattle.std.specs.Ordering.{is_gt}
use Rattle.std.specs.declared.cmp.Ordering.TheVariants.{Less}
use Rattle.clr_rows.specs.declared.cells.CellId.{CellId}
use Rattle.clr_rows.specs.Cells.{cell_cmp}
use Rattle.clr_rows.specs.Held.{Held}
use Rattle.clr_rules.specs.declared.rules.Rule.{Rule}
use Rattle.clr_rules.specs.Calls.{part_count}
use Rattle.clr_rules.specs.Sides.{sides}
use Rattle.clr_spots.specs.RoleSpots.{subject_spots_under}
use Rattle.clr_spots.specs.Spots.{are_many, unless_many}
use Rattle.clr_spots.specs.declared.spot_maps.FiledPart.{FiledPart}
use Rattle.clr_spots.specs.Filing.{Filed, IsFiled, with_filed}
use Rattle.clr_needs.specs.declared.needs.Need.{Need}
use Rattle.clr_needs.specs.Needs.{is_fresh}
use Rattle.clr_needs.specs.Orders.{need_cmp}
use Rattle.clr_row_versions.specs.declared.versions.Version.{Version}
use Rattle.clr_row_versions.specs.Candidates.{IsNeedBetween, IsNeedOfPair, may_be_paired}
use Rattle.clr_row_versions.specs.Versions.{row_of}

-- a need of two versions in one part of each
abbrev pub IsNeedOfParts : List Rule → ℕ → Version → ℕ → Version → ℕ → Need → Type 0
IsNeedOfParts rules number s p t q n =
    (IsNeedBetween rules number None s t n × (n.first_part ≡ p) × (n.second_part ≡ q))
    ⊎ (IsNeedBetween rules number None t s n × (n.first_part ≡ q) × (n.second_part ≡ p))

-- in this part of the one
abbrev pub IsNeedOfItsPart : List Rule → ℕ → Version → ℕ → Version → Need → Type 0
IsNeedOfItsPart rules number s p t n =
    (IsNeedBetween rules number None s t n × (n.first_part ≡ p)) ⊎ (IsNeedBetween rules number None t s n × (n.second_part ≡ p))

-- a need with the version and in the part that a filed part names
abbrev pub IsNeedOfFiledPart : List Rule → ℕ → List Version → Version → ℕ → FiledPart → Need → Type 0
IsNeedOfFiledPart rules number fresh s p e n = (t : Version) × (slice_get fresh e.position ≡ Some t) × IsNeedOfParts rules number s p t e.part n

-- with one of the versions before a position, in this part of the one, or in any
abbrev pub IsNeedWithPart : List Rule → ℕ → List Version → ℕ → Version → ℕ → Need → Type 0
IsNeedWithPart rules number fresh k s p n = (i : ℕ) × (t : Version) × (i < k) × (slice_get fresh i ≡ Some t) × IsNeedOfItsPart rules number s p t n

abbrev pub IsNeedWithBefore : List Rule → ℕ → List Version → ℕ → Version → Need → Type 0
IsNeedWithBefore rules number fresh k s n = (i : ℕ) × (t : Version) × (i < k) × (slice_get fresh i ≡ Some t) × IsNeedOfPair rules number None s t n

-- of the version at a position and one before it
abbrev pub IsNeedAtPosition : List Rule → ℕ → List Version → ℕ → Need → Type 0
IsNeedAtPosition rules number fresh k n = (s : Version) × (slice_get fresh k ≡ Some s) × IsNeedWithBefore rules number fresh k s n

-- of two of some versions
abbrev pub IsNeedOfTwo : List Rule → ℕ → List Version → Need → Type 0
IsNeedOfTwo rules number fresh n = (s : Version) × (t : Version) × Contains fresh s × Contains fresh t × IsNeedBetween rules number None s t n

-- filing -------------------------------------------------------------------------------------

abbrev pub filed_part : ℕ → ℕ → FiledPart
filed_part position part = record { position = position; part = part }

-- what is filed with a part of a row, at its spots as a subject
abbrev pub with_part : List Rule → ℕ → Filed → ℕ → ℕ → Held → Filed
with_part rules number m position part s =
    with_filed m (filed_part position part) (unless_many (subject_spots_under rules number part s)) (are_many (subject_spots_under rules number part s))

-- the parts up to a number of the version at a position are filed at their spots as subjects
abbrev pub ArePartsFiled : List Rule → ℕ → Filed → ℕ → Version → ℕ → Type 0
ArePartsFiled rules number m position s most =
    (part : ℕ) → 1 ≤ part → part ≤ most → IsFiled m (filed_part position part) (subject_spots_under rules number part (row_of s))

-- all parts of each version before a position are filed, if the version may be one of two subjects
abbrev pub AreFiledBefore : List Rule → ℕ → List Version → ℕ → Filed → Type 0
AreFiledBefore rules number fresh k m = (i : ℕ) (s : Version) → i < k → slice_get fresh i ≡ Some s → may_be_paired rules number (row_of s) ≡ true
    → ArePartsFiled rules number m i s (part_count rules number (row_of s))

-- needs that are left out --------------------------------------------------------------------

-- no row serves under the rule
abbrev pub is_unserved : Rule → Bool
is_unserved rule = not (is_some (sides rule).server)

abbrev pub is_unserved_by : Option Rule → Bool
is_unserved_by None = false
is_unserved_by (Some rule) = is_unserved rule

unfoldable pub is_unserved_under : List Rule → ℕ → Bool
is_unserved_under rules number = is_unserved_by (slice_get rules number)

-- a cell stands behind the last cell that counts, if there is a last one
abbrev pub is_past : Option CellId → CellId → Bool
is_past None q = false
is_past (Some last) q = is_gt (cell_cmp q last)

-- the statement holds of the need, whose first subject isn't past the last cell that counts
abbrev pub UpTo : Option CellId → (Need → Type 0) → Need → Type 0
UpTo last P n = P n × (is_past last n.first.cell ≡ false)

-- two new versions make the need, which no row serves, in a list that may leave out what is behind it
pub record BreaksAtOnce (rules : List Rule) (leaves_out : Bool) (n : Need) : Type 0 where
  pub allowed : leaves_out ≡ true
  pub unserved : is_unserved_under rules n.rule ≡ true
  pub first : n.first.fresh ≡ true
  pub second : is_fresh n.second ≡ true

-- one of some needs breaks a rule at once, and has its first subject at this cell
abbrev pub HasBreakAt : List Rule → Bool → ℕ → List Need → CellId → Type 0
HasBreakAt rules leaves_out number needs q = (n : Need) × Contains needs n × BreaksAtOnce rules leaves_out n × (n.rule ≡ number) × (n.first.cell ≡ q)

-- a need that breaks at once stands before another need
abbrev pub Passes : List Rule → Bool → Need → Need → Type 0
Passes rules leaves_out m n = BreaksAtOnce rules leaves_out m × (need_cmp m n ≡ Less)
