use Rattle.std.proofs.Common.{rules, not, ◌++◌, ◌∷◌, [], ap, ◌∙◌, List}
use Rattle.std.proofs.lemmas.Fn.{filter_same}
use Rattle.clr_deltas.specs.declared.stored_marks.StoredMark.{StoredMark}
use Rattle.clr_deltas.specs.declared.stored_marks.StoredMark.TheVariants.{Child}
use Rattle.clr_deltas.specs.Deltas.{is_stored_mark_of, stored_without_mark_of}
use Rattle.clr_deltas.proofs.stored_marks.move_last.Goals as goal

pub returns-clause-ok : goal.returns-clause-ok
returns-clause-ok c =
    c.push_reserved.ensures.items ∙ ap (λ (ms : List StoredMark). ms ++ Child c.args.child ∷ [])
    (filter_same _ (λ m. not (is_stored_mark_of c.args.child m)) _ (λ x b g call. search rules) _ _ c.retain.ensures.filtered
    ∙ ap (stored_without_mark_of c.args.child) c.in_ok-reserve.ensures.items)
