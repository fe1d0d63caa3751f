-- Laws of tips.
use Rattle.std.specs.Prelude.{◌≡◌, ℕ, ℤ, Some, None, slice_get}
use Rattle.std.specs.FinMap as finite
use Rattle.clr_rows.specs.Contents.{Content, row_at}
use Rattle.clr_workspaces.specs.Marks.{Name}
use Rattle.clr_steps.specs.Offices.{Office, content_of}
use Rattle.clr_steps.specs.Readings.{changes_in, if_stands}
use Rattle.clr_tips.specs.Keys.{all_names, tip_key}

-- two workspaces that are told one key of a table are one, also where the second was asked later, with the same workspaces
abbrev pub TipsDiffer : Type 0
TipsDiffer = (o later : Office) → all_names later ≡ all_names o → (root other : Name) (table : ℕ) (a b : Name) (key : ℤ)
    → tip_key o root table a ≡ Some key → tip_key later other table b ≡ Some key → a ≡ b

-- the key that a workspace is told is free: no row of the root and no change of any workspace is at it
abbrev pub TipsAreFree : Type 0
TipsAreFree = (o : Office) (root : Name) (table : ℕ) (name : Name) (key : ℤ) → tip_key o root table name ≡ Some key
    → ((content : Content) → if_stands o root (content_of o root) ≡ Some content → row_at content (record { table = table; key = key }) ≡ None)
    × ((at : ℕ) (ws : Name) → slice_get (all_names o) at ≡ Some ws → finite.get (changes_in o ws) (record { table = table; key = key }) ≡ None)
