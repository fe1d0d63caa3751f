-- What holds of an office in which no workspace is unheld.
use Rattle.std.specs.Prelude.{◌≡◌, [], None}
use Rattle.clr_engine.specs.Drafts.{unheld_in}
use Rattle.clr_steps.specs.Invariants.{HoldsWhereKept}
use Rattle.clr_steps.specs.Offices.{Office}

-- where no workspace is unheld, every rule holds in LIVE and in each workspace that is kept
abbrev pub HeldLaw : Type 0
HeldLaw = (o : Office) → unheld_in o [] ≡ None → HoldsWhereKept o
