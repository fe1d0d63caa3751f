-- What a cut says of a row of the whole root.
use Rattle.std.specs.Prelude.{◌≡◌, ◌⊎◌, ℕ, Some, None}
use Rattle.clr_rows.specs.declared.rows.Row.{Row}
use Rattle.clr_rows.specs.Held.{Held}
use Rattle.clr_needs.specs.Settings.{Setting, changer}
use Rattle.clr_reach.specs.declared.aims.Aim.{Aim}
use Rattle.clr_reach.specs.Found.{IsFound}
use Rattle.clr_cut_rows.specs.declared.standings.Standing.{Standing}
use Rattle.clr_cut_rows.specs.declared.standings.Standing.TheVariants.{Has, HasOther, Lacks, Beyond}

-- the row belongs to the cut: a member changes its cell, or it is found from the cut's versions
abbrev pub Belongs : Aim → Setting ℕ → Held → Type 0
Belongs aim c s = ((x : ℕ) × (changer c s.0 ≡ Some x)) ⊎ IsFound aim c s

-- the cut has the row, or another one at its cell, or none there, and the row belongs to it or not
abbrev pub IsStanding : Aim → Setting ℕ → Held → Standing → Type 0
IsStanding aim c s Has = c.root s.0 ≡ Some s.1
IsStanding aim c s HasOther = (r : Row) × (c.root s.0 ≡ Some r) × ¬ (r ≡ s.1)
IsStanding aim c s Lacks = (c.root s.0 ≡ None) × Belongs aim c s
IsStanding aim c s Beyond = (c.root s.0 ≡ None) × ¬ (Belongs aim c s)
