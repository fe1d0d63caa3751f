-- What holds of spots by their definitions, whatever the code does.
use Rattle.std.specs.Prelude.{◌≡◌, ◌↔◌, ℤ, ◌≤ℤ◌, true, Contains, Some, None, Option, ⊤}
use Rattle.std.specs.List.{IsDistinct}
use Rattle.clr_rows.specs.Held.{Held}
use Rattle.clr_segments.specs.declared.boxes.Bounds.{Bounds}
use Rattle.clr_rules.specs.declared.needs.Ask.{Ask}
use Rattle.clr_rules.specs.declared.rules.Rule.{Rule}
use Rattle.clr_rules.specs.Books.{has_distance}
use Rattle.clr_rules.specs.Calls.{are_subjects, is_server}
use Rattle.clr_spots.specs.declared.spots.Spot.TheVariants.{Square}
use Rattle.clr_spots.specs.SpotOrder.{same_spot}
use Rattle.clr_spots.specs.Spots.{SquareMeets, squares_of, spots, share}

-- the squares of a box are exactly those that meet it
abbrev pub SquaresLaw : Type 0
SquaresLaw = (b : Bounds) (i j : ℤ) → b.least.x ≤ℤ b.most.x → b.least.y ≤ℤ b.most.y → Contains (squares_of b) (Square i j) ↔ SquareMeets i j b

-- a row has each of its spots once
abbrev pub SpotsDiffer : Type 0
SpotsDiffer = (rule : Rule) (s : Held) → IsDistinct same_spot (spots rule s)

-- the second subject, if there is one, shares a spot with the first, or one of them is wide
abbrev pub SharesBeside : Rule → Held → Option Held → Type 0
SharesBeside rule s None = ⊤
SharesBeside rule s (Some t) = share rule s t ≡ true

-- any two of the subjects share a spot, or one of them is wide; a distance is within its range
abbrev pub SubjectsShare : Type 0
SubjectsShare = (rule : Rule) (ask : Ask) (s : Held) (t : Option Held) → has_distance rule ≡ true → are_subjects rule ask s t ≡ true → SharesBeside rule s t

-- a row that serves subjects shares a spot with each of them, or one of the two is wide
abbrev pub ServersShare : Type 0
ServersShare = (rule : Rule) (ask : Ask) (s : Held) (t : Option Held) (r : Held)
    → are_subjects rule ask s t ≡ true
    → is_server rule ask s t r ≡ true
    → (share rule s r ≡ true) × SharesBeside rule r t

-- two rows share a spot in either order
abbrev pub SharedBothWays : Type 0
SharedBothWays = (rule : Rule) (s t : Held) → share rule s t ≡ share rule t s
