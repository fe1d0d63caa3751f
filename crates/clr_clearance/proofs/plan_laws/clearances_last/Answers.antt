use Rattle.clr_clearance.proofs.LastingLemmas.{lasting, lasting_cover, lasting_cover_reordered, lasting_reordered}
use Rattle.clr_clearance.proofs.plan_laws.clearances_last.Goals as goal

pub returns : goal.returns
returns c = record { cover = lasting_cover; clear = lasting; cover_reordered = lasting_cover_reordered; clear_reordered = lasting_reordered }
