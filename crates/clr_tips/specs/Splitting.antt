-- Lines that cross at no whole millimetre are split at one place near, by the members that bring them.
use Rattle.std.specs.Prelude.{ℕ, ℤ, ◌==◌, true, false, List, [], ◌∷◌, Option, Some, None, slice_get, if◌then◌else◌}
use Rattle.clr_rows.specs.declared.places.Place.{Place}
use Rattle.clr_rows.specs.declared.rows.Row.{Row}
use Rattle.clr_rows.specs.declared.tables.TableDef.{TableDef}
use Rattle.clr_rows.specs.Contents.{Changes}
use Rattle.clr_rules.specs.declared.sides.Side.{Side}
use Rattle.clr_needs.specs.declared.needs.Need.{Need}
use Rattle.clr_needs.specs.declared.needs.VersionId.{VersionId}
use Rattle.clr_needs.specs.Members.{after_of, positions}
use Rattle.clr_needs.specs.Settings.{first_changer}
use Rattle.clr_steps.specs.Offices.{Office}
use Rattle.clr_steps.specs.Quiet.{MergeSet}
use Rattle.clr_member_changes.specs.Names.{member_name}
use Rattle.clr_merge_sets.specs.MemberChanges.{row_in}
use Rattle.clr_tips.specs.declared.lines.Splitter.{Splitter}
use Rattle.clr_tips.specs.declared.splits.Split.{Split}
use Rattle.clr_tips.specs.declared.splitting.SplitKeys.{SplitKeys}
use Rattle.clr_tips.specs.Splits.{split_by_one, split_by_two}
use Rattle.clr_tips.specs.Keys.{later_tip_key, tip_key}
use Rattle.clr_tips.specs.Rows.{serving_row}

-- the first member that brings a version
abbrev pub bringer_of : List Changes → VersionId → Option ℕ
bringer_of sets v = if v.fresh then first_changer (after_of sets) (positions sets) v.cell else None

-- who splits two lines: each of them whoever brings it, and one that nobody brings the member that brings the other
abbrev pub splitters_of : Option ℕ → Option ℕ → Option (ℕ × ℕ)
splitters_of (Some a) (Some b) = Some (a, b)
splitters_of (Some a) None = Some (a, a)
splitters_of None (Some b) = Some (b, b)
splitters_of None None = None

abbrev pub all_keys : Option ℤ → Option ℤ → Option ℤ → Option ℤ → Option SplitKeys
all_keys (Some a) (Some b) (Some c) (Some d) = Some (record { first_line = a; second_line = b; first_node = c; second_node = d })
all_keys _ _ _ _ = None

-- the keys of the rows that two members bring where they split lines of these tables and bring nodes, if there is room for all
abbrev pub split_keys : Office → MergeSet → ℕ × ℕ → ℕ × ℕ → ℕ → Option SplitKeys
split_keys o s by lines node =
    all_keys (tip_key o s.root lines.0 (member_name s.members by.0)) (later_tip_key o s.root lines.1 (member_name s.members by.1))
    (tip_key o s.root node (member_name s.members by.0)) (tip_key o s.root node (member_name s.members by.1))

-- one member splits both lines and brings a node; or two split a line each, and one of them brings the node, or each does
abbrev pub splits : Place → Row → Splitter → Splitter → List Split
splits p node x y =
    if x.member == y.member then split_by_one p node x y ∷ []
    else split_by_two p node x y true false ∷ split_by_two p node x y false true ∷ split_by_two p node x y true true ∷ []

abbrev pub first_splitter : Need → Side → Row → ℕ × ℕ → SplitKeys → Splitter
first_splitter need side row by keys = record {
  member = by.0;
  cell = need.first.cell;
  row = row;
  part = need.first_part;
  key = keys.first_line;
  node = record { table = side.table; key = keys.first_node };
}

abbrev pub second_splitter : Need → VersionId → Side → Row → ℕ × ℕ → SplitKeys → Splitter
second_splitter need v side row by keys = record {
  member = by.1;
  cell = v.cell;
  row = row;
  part = need.second_part;
  key = keys.second_line;
  node = record { table = side.table; key = keys.second_node };
}

-- where the table of nodes is there, and there is room for all keys
abbrev pub splits_with : Need → VersionId → Side → Place → Row → Row → ℕ × ℕ → Option TableDef → Option SplitKeys → List Split
splits_with need v side p first second by (Some table) (Some keys) =
    splits p (serving_row table side p) (first_splitter need side first by keys) (second_splitter need v side second by keys)
splits_with need v side p first second by _ _ = []

abbrev pub splits_by : Office → MergeSet → Need → VersionId → Side → Place → Row → Row → Option (ℕ × ℕ) → List Split
splits_by o s need v side p first second None = []
splits_by o s need v side p first second (Some by) =
    splits_with need v side p first second by (slice_get o.schema side.table)
    (split_keys o s by (need.first.cell.table, v.cell.table) side.table)

-- the lines of two rows, if both stand
abbrev pub splits_of_rows : Office → MergeSet → List Changes → Need → VersionId → Side → Place → Option Row → Option Row → List Split
splits_of_rows o s sets need v side p (Some first) (Some second) =
    splits_by o s need v side p first second (splitters_of (bringer_of sets need.first) (bringer_of sets v))
splits_of_rows o s sets need v side p _ _ = []

-- the lines of a need whose second row has this version
abbrev pub splits_near : Office → MergeSet → List Changes → Need → VersionId → Side → Place → List Split
splits_near o s sets need v side p = splits_of_rows o s sets need v side p (row_in o s need.first) (row_in o s v)

abbrev pub splits_of_second : Office → MergeSet → List Changes → Need → Side → Place → Option VersionId → List Split
splits_of_second o s sets need side p None = []
splits_of_second o s sets need side p (Some v) = splits_near o s sets need v side p

-- the ways to split the lines of a need at a place near where they cross, if one is told
abbrev pub splits_of : Office → MergeSet → List Changes → Need → Option Side → Option Place → List Split
splits_of o s sets need (Some side) (Some p) = splits_of_second o s sets need side p need.second
splits_of o s sets need _ _ = []
