-- What holds of needs by their definitions, whatever the code does.
use Rattle.std.specs.Prelude.{◌≡◌, ◌↔◌, true, List, Some, None, Option, ⊤}
use Rattle.clr_rows.specs.declared.places.Place.{Place}
use Rattle.clr_rows.specs.declared.tables.TableDef.{TableDef}
use Rattle.clr_rows.specs.Contents.{Content, row_at}
use Rattle.clr_rows.specs.Held.{Held}
use Rattle.clr_rows.specs.Parts.{part_of}
use Rattle.clr_segments.specs.Segments.{LiesOn, SomeCommonPoint, TwoCommonPoints}
use Rattle.clr_rules.specs.declared.needs.Ask.{Ask}
use Rattle.clr_rules.specs.declared.rules.Rule.{Rule}
use Rattle.clr_rules.specs.declared.rules.Rule.TheVariants.{Crossing}
use Rattle.clr_rules.specs.declared.sides.Side.{Side}
use Rattle.clr_rules.specs.Books.{FitsCell}
use Rattle.clr_rules.specs.Calls.{are_subjects, is_server}
use Rattle.clr_rules.specs.Needs.{Holds, BreaksNoMore, IsAudit, IsNewAudit, View, broken_needs, newly_broken_needs}
use Rattle.clr_rules.specs.Sides.{Segment, is_of_side, are_of_sides, has_role_in, point_of}

-- a content's broken needs are listed exactly, ascending, each once
abbrev pub BrokenLaw : Type 0
BrokenLaw = (rules : List Rule) (content : Content) → IsAudit rules (row_at content) (broken_needs rules content)

-- the needs that one content breaks and another doesn't are listed exactly, ascending, each once
abbrev pub NewlyBrokenLaw : Type 0
NewlyBrokenLaw = (rules : List Rule) (before after : Content) → IsNewAudit rules (row_at before) (row_at after) (newly_broken_needs rules before after)

-- where every rule holds before and nothing more is broken after, every rule holds after, and the newly broken needs are all that there are
pub record WhereHeld (rules : List Rule) (before : Content) : Type 0 where
  pub holds : (after : View) → BreaksNoMore rules (row_at before) after → Holds rules after
  pub all : (after : Content) → newly_broken_needs rules before after ≡ broken_needs rules after

abbrev pub HeldBeforeLaw : Type 0
HeldBeforeLaw = (rules : List Rule) (before : Content) → Holds rules (row_at before) → WhereHeld rules before

-- crossings ----------------------------------------------------------------------------------

-- both parts of an ask are there, with a common point
pub record PartsMeet (ask : Ask) (s t : Held) : Type 0 where
  pub one : Segment
  pub other : Segment
  pub is_one : part_of s.1.shape ask.first_part ≡ Some one
  pub is_other : part_of t.1.shape ask.second_part ≡ Some other
  pub common : SomeCommonPoint one.0 one.1 other.0 other.1

-- a row is a point of both parts of an ask, which are there and have no two common points that differ
pub record IsAtCrossing (ask : Ask) (s t r : Held) : Type 0 where
  pub one : Segment
  pub other : Segment
  pub point : Place
  pub is_one : part_of s.1.shape ask.first_part ≡ Some one
  pub is_other : part_of t.1.shape ask.second_part ≡ Some other
  pub is_point : point_of r ≡ Some point
  pub on_one : LiesOn point one.0 one.1
  pub on_other : LiesOn point other.0 other.1
  pub no_two : TwoCommonPoints one.0 one.1 other.0 other.1 → ⊥

-- rows of a schema call a crossing exactly where the sides fit and the parts have a common point
abbrev pub CrossingSubjects : Type 0
CrossingSubjects = (tables : List TableDef) (a b server : Side) (ask : Ask) (s t : Held)
    → FitsCell tables s
    → FitsCell tables t
    → (are_subjects (Crossing a b server) ask s (Some t) ≡ true) ↔ (are_of_sides a b s t ≡ true) × PartsMeet ask s t

-- where two rows fit a schema, a row serves them under a crossing exactly where it is of the server's side and a point of both parts of the ask
abbrev pub CrossingServers : Type 0
CrossingServers = (tables : List TableDef) (a b server : Side) (ask : Ask) (s t r : Held)
    → FitsCell tables s
    → FitsCell tables t
    → (is_server (Crossing a b server) ask s (Some t) r ≡ true) ↔ (is_of_side server r ≡ true) × IsAtCrossing ask s t r

-- roles --------------------------------------------------------------------------------------

-- a rule's second subject, if there is one, has a role in the rule
abbrev pub SecondHasRole : Rule → Option Held → Type 0
SecondHasRole rule None = ⊤
SecondHasRole rule (Some t) = has_role_in rule t ≡ true

-- subjects have a role in their rule
abbrev pub SubjectsHaveRoles : Type 0
SubjectsHaveRoles = (rule : Rule) (ask : Ask) (s : Held) (t : Option Held) → are_subjects rule ask s t ≡ true
    → (has_role_in rule s ≡ true) × SecondHasRole rule t

-- a row that serves subjects has a role in their rule
abbrev pub ServersHaveRoles : Type 0
ServersHaveRoles = (rule : Rule) (ask : Ask) (s : Held) (t : Option Held) (r : Held) → is_server rule ask s t r ≡ true → has_role_in rule r ≡ true
