-- Which rows a server can serve: under a crossing those alone on which it lies.
use Rattle.std.specs.Prelude.{◌≡◌, ℕ, Bool, true, false, List, Option, Some}
use Rattle.clr_rows.specs.declared.places.Place.{Place}
use Rattle.clr_rows.specs.declared.places.Shape.{Shape}
use Rattle.clr_rows.specs.Held.{Held}
use Rattle.clr_rows.specs.Parts.{part_of}
use Rattle.clr_segments.specs.Searches.{lies_on}
use Rattle.clr_rules.specs.declared.needs.Ask.{Ask}
use Rattle.clr_rules.specs.declared.rules.Rule.{Rule}
use Rattle.clr_rules.specs.Calls.{serves}
use Rattle.clr_rules.specs.Sides.{Segment, point_in}

-- the place is a point of the segment, where both are there
abbrev pub is_on_part : Option Place → Option Segment → Bool
is_on_part (Some p) (Some e) = lies_on p e.0 e.1
is_on_part _ _ = false

-- the one shape is no point of a part of the other
abbrev pub LiesOnNoPart : Shape → Shape → Type 0
LiesOnNoPart server shape = (number : ℕ) → is_on_part (point_in server) (part_of shape number) ≡ false

-- the server serves no need of which the row is a subject
pub record IsNeverServed (rules : List Rule) (number : ℕ) (r s : Held) : Type 0 where
  pub first : (ask : Ask) (t : Option Held) → ask.rule ≡ number → serves rules ask s t r ≡ true → ⊥
  pub second : (ask : Ask) (t : Held) → ask.rule ≡ number → serves rules ask t (Some s) r ≡ true → ⊥
