-- The items of an office text that a fault stands at.
use Rattle.std.specs.Prelude.{ℕ, List, codes, Result, Ok}
use Rattle.serde_json.specs.Data.{Data}
use Rattle.clr_rule_text.specs.declared.faults.TextFault.{TextFault}
use Rattle.clr_readings.specs.Readings.{◌>>=◌}
use Rattle.clr_faults.specs.Stages.{list_item_of}
use Rattle.clr_faults.specs.declared.spots.FaultyItem.{FaultyItem}
use Rattle.clr_faults.specs.declared.spots.FaultyItem.TheVariants.{Whole, Table, Rule, Live, Workspace, Base, Row, Mark, Saved}

abbrev pub item_in_workspace : ℕ → List ℕ → ℕ → Data → Result Data TextFault
item_in_workspace at key item d = list_item_of (codes "workspaces") at d >>= list_item_of key item

abbrev pub saved_item : ℕ → ℕ → ℕ → Data → Result Data TextFault
saved_item at mark cell d = item_in_workspace at (codes "marks") mark d >>= list_item_of (codes "rows") cell

abbrev pub item_at_spot : FaultyItem → Data → Result Data TextFault
item_at_spot Whole d = Ok d
item_at_spot (Table at) d = list_item_of (codes "tables") at d
item_at_spot (Rule at) d = list_item_of (codes "rules") at d
item_at_spot (Live at) d = list_item_of (codes "live") at d
item_at_spot (Workspace at) d = list_item_of (codes "workspaces") at d
item_at_spot (Base at cell) d = item_in_workspace at (codes "base") cell d
item_at_spot (Row at cell) d = item_in_workspace at (codes "rows") cell d
item_at_spot (Mark at mark) d = item_in_workspace at (codes "marks") mark d
item_at_spot (Saved at mark cell) d = saved_item at mark cell d

-- the place of an item in its list; the whole text is in none
abbrev pub place_in_list : FaultyItem → ℕ
place_in_list Whole = 0
place_in_list (Table at) = at
place_in_list (Rule at) = at
place_in_list (Live at) = at
place_in_list (Workspace at) = at
place_in_list (Base at cell) = cell
place_in_list (Row at cell) = cell
place_in_list (Mark at mark) = mark
place_in_list (Saved at mark cell) = cell

-- the item at a place of the list that an item is in
abbrev pub item_beside : FaultyItem → ℕ → FaultyItem
item_beside Whole place = Whole
item_beside (Table at) place = Table place
item_beside (Rule at) place = Rule place
item_beside (Live at) place = Live place
item_beside (Workspace at) place = Workspace place
item_beside (Base at cell) place = Base at place
item_beside (Row at cell) place = Row at place
item_beside (Mark at mark) place = Mark at place
item_beside (Saved at mark cell) place = Saved at mark place
