use Rattle.clr_clearance.proofs.StaticLemmas.{held_law, static_law}
use Rattle.clr_clearance.proofs.laws.covered_members_stay_free.Goals as goal

pub returns : goal.returns
returns c = record { free = static_law; held = held_law }
