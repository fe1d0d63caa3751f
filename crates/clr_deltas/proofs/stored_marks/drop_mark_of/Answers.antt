use Rattle.std.proofs.Common.{rules, not}
use Rattle.std.proofs.lemmas.Fn.{filter_same}
use Rattle.clr_deltas.specs.Deltas.{is_stored_mark_of}
use Rattle.clr_deltas.proofs.stored_marks.drop_mark_of.Goals as goal

pub returns : goal.returns
returns c = filter_same _ (λ m. not (is_stored_mark_of c.args.child.now m)) _ (λ x b g call. search rules) _ _ c.retain.ensures.filtered
