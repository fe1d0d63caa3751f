-- What may clear members that are blocked, in the order in which it is tried.
use Rattle.std.specs.Prelude.{◌≡◌, ℕ, ℤ, ◌++◌, List, [], ◌∷◌, length, map, nat_lt, Option, Some, None, option_to_list, slice_get, if◌then◌else◌}
use Rattle.std.specs.List.{flat_map}
use Rattle.std.specs.Option.{option_and_then, option_map}
use Rattle.clr_rows.specs.declared.cells.CellId.{CellId}
use Rattle.clr_rows.specs.declared.places.Place.{Place}
use Rattle.clr_rows.specs.declared.rows.Row.{Row}
use Rattle.clr_rows.specs.declared.tables.Form.{Form}
use Rattle.clr_rows.specs.declared.tables.Form.TheVariants.{Point}
use Rattle.clr_rows.specs.declared.tables.TableDef.{TableDef}
use Rattle.clr_rows.specs.Contents.{Changes}
use Rattle.clr_change.specs.declared.edits.Edit.{Edit}
use Rattle.clr_change.specs.declared.edits.Edit.TheVariants as edit
use Rattle.clr_rules.specs.declared.sides.Side.{Side}
use Rattle.clr_rules.specs.Sides.{sides}
use Rattle.clr_needs.specs.declared.needs.Need.{Need}
use Rattle.clr_needs.specs.declared.needs.VersionId.{VersionId}
use Rattle.clr_needs.specs.Members.{after_of, positions}
use Rattle.clr_needs.specs.Settings.{first_changer}
use Rattle.clr_steps.specs.Offices.{Office}
use Rattle.clr_steps.specs.Quiet.{MergeSet}
use Rattle.clr_clearance.specs.MergeSets.{change_sets}
use Rattle.clr_clearance.specs.declared.verdicts.Verdict.{Verdict}
use Rattle.clr_clearance.specs.declared.verdicts.Verdict.TheVariants as verdict
use Rattle.clr_clash_helpers.specs.Helpers.{AreHelpersIn}
use Rattle.clr_member_changes.specs.Names.{member_name}
use Rattle.clr_merge_sets.specs.declared.plans.Plan.{Plan}
use Rattle.clr_merge_sets.specs.declared.plans.Plan.TheVariants as plan
use Rattle.clr_phrases.specs.declared.meetings.Meeting.{Meeting}
use Rattle.clr_phrases.specs.declared.meetings.Meeting.TheVariants as meeting
use Rattle.clr_serving_rows.specs.declared.servers.ServerChange.{ServerChange}
use Rattle.clr_serving_rows.specs.NeedPlaces.{rule_in}
use Rattle.clr_serving_rows.specs.Servers.{server_changes}
use Rattle.clr_whereabouts.specs.declared.needs.Whereabouts.{Whereabouts}
use Rattle.clr_whereabouts.specs.Whereabouts.{IsWhereabouts}
use Rattle.clr_member_changes.specs.Versions.{set_row}
use Rattle.clr_work_orders.specs.declared.actions.Action.{Action}
use Rattle.clr_work_orders.specs.declared.actions.Action.TheVariants as action
use Rattle.clr_tips.specs.Keys.{tip_key}
use Rattle.clr_tips.specs.Rows.{serving_row}
use Rattle.clr_tips.specs.Splitting.{splits_of}

-- a row is given up -----------------------------------------------------------------------------------

-- the edit by which a cell has again the row that was taken over, where it has a row then or now
abbrev pub undoing_edit : CellId → Option Row → Option Row → Option Edit
undoing_edit q None None = None
undoing_edit q None (Some after) = Some (edit.Delete q)
undoing_edit q (Some before) None = Some (edit.Insert q before)
undoing_edit q (Some before) (Some after) = Some (edit.Update q before)

-- a member leaves a cell as it took it over, if it changes it
abbrev pub undoing : List Changes → CellId → ℕ → List Action
undoing sets q member =
    option_to_list (option_map (action.Make member) (undoing_edit q (set_row (λ e. e.before) sets member q) (set_row (λ e. e.after) sets member q)))

-- the first member that changes the cell of a version which it brings doesn't bring it
abbrev pub giving_up : List Changes → VersionId → List Action
giving_up sets v = if v.fresh then flat_map (undoing sets v.cell) (option_to_list (first_changer (after_of sets) (positions sets) v.cell)) else []

abbrev pub giving_up_any : List Changes → Option VersionId → List Action
giving_up_any sets None = []
giving_up_any sets (Some v) = giving_up sets v

-- a member leaves a row that serves where it stands
abbrev pub keeping : List Changes → ServerChange → List Action
keeping sets change = if change.leaves then undoing sets change.cell change.member else []

-- a row is brought ------------------------------------------------------------------------------------

abbrev pub bringing_edit : TableDef → Side → Place → ℤ → Edit
bringing_edit table side p key = edit.Insert (record { table = side.table; key = key }) (serving_row table side p)

-- a member brings a row of a side at a place, with its own key above the greatest, where there is room for one
abbrev pub bringing : Office → MergeSet → Side → Place → TableDef → ℕ → List Action
bringing o s side p table member =
    option_to_list (option_map (λ key. action.Make member (bringing_edit table side p key)) (tip_key o s.root side.table (member_name s.members member)))

-- each of these members brings a row, where the table has points
abbrev pub bringing_all : Office → MergeSet → List ℕ → Side → Place → TableDef → Form → List Action
bringing_all o s order side p table Point = flat_map (bringing o s side p table) order
bringing_all o s order side p table _ = []

abbrev pub bringing_to : Office → MergeSet → List ℕ → Side → Place → Option TableDef → List Action
bringing_to o s order side p None = []
bringing_to o s order side p (Some table) = bringing_all o s order side p table table.shape

-- a row that serves is brought to the place where one is missing
abbrev pub serving : Office → MergeSet → List ℕ → Option Side → Meeting → List Action
serving o s order (Some side) (meeting.Whole p) = bringing_to o s order side p (slice_get o.schema side.table)
serving o s order _ _ = []

-- all of a plan ---------------------------------------------------------------------------------------

-- the side whose rows serve a need, if any can
abbrev pub server_of : Office → Need → Option Side
server_of o need = option_and_then (λ rule. (sides rule).server) (rule_in o need)

-- lines that cross at no whole millimetre are split at a place near
abbrev pub splitting : Office → MergeSet → List Changes → Need → Option Place → List Action
splitting o s sets need near = map action.Split (splits_of o s sets need (server_of o need) near)

-- a need is served, or taken away
abbrev pub for_need : Office → MergeSet → List Changes → List ℕ → Whereabouts → Need → List Action
for_need o s sets order places need =
    serving o s order (server_of o need) places.meeting
    ++ splitting o s sets need places.near
    ++ flat_map (keeping sets) (server_changes o s need)
    ++ giving_up sets need.first
    ++ giving_up_any sets need.second

-- a cause is taken away
abbrev pub for_cause : Office → MergeSet → List Changes → List ℕ → Whereabouts → Verdict → List Action
for_cause o s sets order places (verdict.Conflict member q count) = undoing sets q member
for_cause o s sets order places (verdict.SharedCell q first second) = undoing sets q first ++ undoing sets q second
for_cause o s sets order places (verdict.Uncovered need) = for_need o s sets order places need
for_cause o s sets order places _ = []

-- one of several members in the order is left out
abbrev pub leaving_out : List ℕ → List Action
leaving_out order = if nat_lt 1 (length order) then map action.LeaveOut order else []

-- nothing is told of where rows are
abbrev pub nowhere : Whereabouts
nowhere = record { meeting = meeting.NoParts; near = None; gap = None }

-- where the rows of the need of a cause are; another cause asks for no place
abbrev pub IsPlaceOfCause : Office → MergeSet → Verdict → Whereabouts → Type 0
IsPlaceOfCause o s (verdict.Uncovered need) places = IsWhereabouts o s need places
IsPlaceOfCause o s _ places = places ≡ nowhere

-- what may clear members that are blocked in this order for this cause: a member that helps goes first, it is taken away, or a member of the order left out
abbrev pub AreForCause : Office → MergeSet → List Changes → List ℕ → Verdict → List Action → Type 0
AreForCause o s sets order cause actions =
    (places : Whereabouts) × IsPlaceOfCause o s cause places × (helpers : List ℕ) × AreHelpersIn o s order cause helpers
    × (actions ≡ map action.GoFirst helpers ++ for_cause o s sets order places cause ++ leaving_out order)

-- what is tried of a plan: nothing where the members aren't blocked
abbrev pub AreRemedies : Office → MergeSet → Plan → List Action → Type 0
AreRemedies o s (plan.Blocked order cause) actions = AreForCause o s (change_sets o s) order.items cause actions
AreRemedies o s _ actions = actions ≡ []
