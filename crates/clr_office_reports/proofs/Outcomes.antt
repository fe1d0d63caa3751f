-- An outcome by its parts.
use Rattle.std.proofs.Common.{◌≡◌, ℕ, Bool, List, refl}
use Rattle.clr_steps.specs.Offices.{Office}
use Rattle.clr_office_reports.specs.Outcomes.{outcome}

pub parts_are : (o : Office) (lines wanted : List ℕ) (refused is_refused lost is_lost : Bool) → lines ≡ wanted → refused ≡ is_refused → lost ≡ is_lost
    → outcome lines refused lost o ≡ outcome wanted is_refused is_lost o
parts_are o lines wanted refused is_refused lost is_lost a b c = rw (a, b, c) refl
