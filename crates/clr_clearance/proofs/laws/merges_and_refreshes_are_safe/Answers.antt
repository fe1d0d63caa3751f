use Rattle.clr_clearance.proofs.AnswerLemmas.{merge_claim, refresh_claim}
use Rattle.clr_clearance.proofs.laws.merges_and_refreshes_are_safe.Goals as goal

pub returns : goal.returns
returns c = record { merge = merge_claim; refresh = refresh_claim }
