-- The broken needs of LIVE as they are listed: whether each is known, where it is, and the few words that a map would say there.
use Rattle.std.specs.Prelude.{◌≡◌, Bool, false, not, List, [], map, All, Option, option_map, string_bytes}
use Rattle.std.specs.List.{list_any}
use Rattle.std.specs.Option.{option_and_then, option_map_or}
use Rattle.clr_rows.specs.declared.cells.CellId.{CellId}
use Rattle.clr_rows.specs.Names.{live_name}
use Rattle.clr_audit.specs.Unknown.{is_known}
use Rattle.clr_rules.specs.declared.needs.Broken.{Broken}
use Rattle.clr_rules.specs.Needs.{broken_needs}
use Rattle.clr_needs.specs.declared.needs.Need.{Need}
use Rattle.clr_needs.specs.declared.needs.VersionId.{VersionId}
use Rattle.clr_steps.specs.Offices.{Office}
use Rattle.clr_steps.specs.Quiet.{MergeSet}
use Rattle.clr_serving_rows.specs.NeedPlaces.{rule_in}
use Rattle.clr_map_scenes.specs.declared.shown_causes.Cause.{Cause}
use Rattle.clr_plan_causes.specs.PlanCauses.{IsCauseUnder}
use Rattle.clr_plan_features.specs.CausePlaces.{place_to_look}
use Rattle.clr_listed_errors.specs.declared.listed_errors.ListedError.{ListedError}

-- LIVE and no design
abbrev pub live_alone : MergeSet
live_alone = record { root = live_name; members = [] }

-- the row that stands at a cell
abbrev pub old_version : CellId → VersionId
old_version cell = record { cell = cell; fresh = false }

-- a need of rows that stand
abbrev pub need_in_live : Broken → Need
need_in_live b = record {
  rule = b.rule;
  first = old_version b.first;
  second = option_map old_version b.second;
  first_part = b.first_part;
  second_part = b.second_part;
}

-- a need as it would be told if it were the cause of a plan of no design
abbrev pub IsTold : Office → Broken → Option Cause → Type 0
IsTold o need found = IsCauseUnder o live_alone (need_in_live need) (rule_in o (need_in_live need)) found

-- an error beside needs that are known
pub record IsListed (o : Office) (known : List Broken) (e : ListedError) : Type 0 where
  pub is_known : e.is_known ≡ is_known known e.need
  pub cause : Option Cause
  pub told : IsTold o e.need cause
  pub place : e.place ≡ option_and_then place_to_look cause
  pub says : e.says ≡ option_map_or (λ c. string_bytes c.says) cause []

-- each broken need of LIVE, in order
pub record AreListed (o : Office) (known : List Broken) (errors : List ListedError) : Type 0 where
  pub needs : map (λ e. e.need) errors ≡ broken_needs o.book o.live
  pub told : All (IsListed o known) errors

-- one of these errors isn't known
abbrev pub is_any_unknown : List ListedError → Bool
is_any_unknown errors = list_any (λ e. not e.is_known) errors
