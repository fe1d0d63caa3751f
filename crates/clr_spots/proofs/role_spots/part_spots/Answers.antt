use Rattle.std.proofs.Common.{◌∙◌, sym}
use Rattle.clr_rules.proofs.FittingLemmas.{part_is_sound}
use Rattle.clr_spots.proofs.role_spots.part_spots.Goals as goal

pub box_between-requires-clause-first : goal.box_between-requires-clause-first
box_between-requires-clause-first c = (part_is_sound _ _ _ c.requires (sym c.part.ensures ∙ c.in-Some.is)).first

pub box_between-requires-clause-second : goal.box_between-requires-clause-second
box_between-requires-clause-second c = (part_is_sound _ _ _ c.requires (sym c.part.ensures ∙ c.in-Some.is)).second
