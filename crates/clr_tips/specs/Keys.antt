-- The key of a row that a tip brings: above all keys of its table, and never that of another workspace.
use Rattle.std.specs.Prelude.{ℕ, ℤ, pos, ◌+◌, ◌-◌, ◌==◌, ◌%◌, max, List, [], ◌∷◌, length, map, nat_le, Option, Some, None, if◌then◌else◌, unsigned_abs}
use Rattle.std.specs.FinMap as finite
use Rattle.std.specs.List.{position}
use Rattle.std.specs.Option.{option_and_then}
use Rattle.std.specs.Str.{bytes_eq}
use Rattle.clr_rows.specs.declared.cells.CellId.{CellId}
use Rattle.clr_rows.specs.declared.limits.TheConstants.{GREATEST_KEY}
use Rattle.clr_rows.specs.Contents.{Changes, Content}
use Rattle.clr_rows.specs.Names.{live_name}
use Rattle.clr_workspaces.specs.Marks.{Name}
use Rattle.clr_steps.specs.Offices.{Office, content_of}
use Rattle.clr_steps.specs.Readings.{changes_in, if_stands}

-- the names of LIVE and of all workspaces, in order of creation
abbrev pub all_names : Office → List Name
all_names o = live_name ∷ map (λ w. w.name) o.workspaces

-- the greater of a key and that of a cell, where it is of this table
abbrev pub greater_key : ℕ → ℕ → CellId → ℕ
greater_key table key q = if q.table == table then max key (unsigned_abs q.key) else key

-- the greatest of a key and the keys of a table among cells with what they hold
abbrev pub greatest_of : {A : Type 0} → ℕ → ℕ → List (CellId × A) → ℕ
greatest_of table key [] = key
greatest_of table key (e ∷ es) = greatest_of table (greater_key table key e.0) es

abbrev pub greatest_in : ℕ → ℕ → List Changes → ℕ
greatest_in table key [] = key
greatest_in table key (set ∷ sets) = greatest_in table (greatest_of table key (finite.entries set)) sets

abbrev pub standing_key : ℕ → Option Content → ℕ
standing_key table None = 0
standing_key table (Some content) = greatest_of table 0 (finite.entries content)

-- the greatest key of a table in a root, if it stands, and among the changes of all workspaces; 0 where it has none
abbrev pub greatest_key : Office → Name → ℕ → ℕ
greatest_key o root table = greatest_in table (standing_key table (if_stands o root (content_of o root))) (map (changes_in o) (all_names o))

-- of `count` workspaces the one at a position has the keys that leave it when they are divided by the count: one of these, above a key
unfoldable pub own_key : ℕ → ℕ → ℕ → ℕ
own_key count at key = key - key % count + count + at

abbrev pub within_keys : ℕ → Option ℤ
within_keys key = if nat_le key (unsigned_abs GREATEST_KEY) then Some (pos key) else None

-- the key of the one that has a name, among all that have these names, above a key
abbrev pub key_among : List Name → ℕ → Name → Option ℤ
key_among names greatest name =
    option_and_then (λ at. within_keys (own_key (length names) at greatest)) (position (λ other. bytes_eq other name) names)

-- the key in a table for a tip to a workspace, where there is room for one
abbrev pub tip_key : Office → Name → ℕ → Name → Option ℤ
tip_key o root table name = key_among (all_names o) (greatest_key o root table) name

-- a second key of a workspace, behind its first
abbrev pub later_key : ℕ → ℤ → Option ℤ
later_key count key = within_keys (unsigned_abs key + count)

abbrev pub later_among : List Name → ℕ → Name → Option ℤ
later_among names greatest name = option_and_then (later_key (length names)) (key_among names greatest name)

abbrev pub later_tip_key : Office → Name → ℕ → Name → Option ℤ
later_tip_key o root table name = later_among (all_names o) (greatest_key o root table) name
