use Rattle.std.proofs.Common.{◌∙◌, sym}
use Rattle.clr_rules.proofs.FittingLemmas.{part_is_sound}
use Rattle.clr_spots.proofs.parts.part_at.Goals as goal

pub returns-clause-sound : goal.returns-clause-sound
returns-clause-sound c = part_is_sound _ _ _ c.requires.sound (sym c.part.ensures ∙ c.unwrap.ensures)
