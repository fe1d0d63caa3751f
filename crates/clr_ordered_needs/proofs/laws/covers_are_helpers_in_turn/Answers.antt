use Rattle.clr_ordered_needs.proofs.HelpLaws.{cover_is_help}
use Rattle.clr_ordered_needs.proofs.laws.covers_are_helpers_in_turn.Goals as goal

pub returns : goal.returns
returns g c = λ before s. cover_is_help before s
