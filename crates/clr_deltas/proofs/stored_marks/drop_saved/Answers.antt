use Rattle.std.proofs.Common.{rules}
use Rattle.std.proofs.lemmas.Fn.{filter_same}
use Rattle.clr_deltas.specs.Deltas.{is_stored_child}
use Rattle.clr_deltas.proofs.stored_marks.drop_saved.Goals as goal

pub returns : goal.returns
returns c = filter_same _ is_stored_child _ (λ x b g call. search rules) _ _ c.retain.ensures.filtered
