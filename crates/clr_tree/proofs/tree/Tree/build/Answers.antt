use Rattle.std.proofs.Common.{List, map, ap, sym, subst, ◌∙◌}
use Rattle.std.proofs.lemmas.Result.{err_from_is_err_and}
use Rattle.clr_workspace_parts.specs.Parts.{workspace_of, first_fault, IsFirstPartFault}
use Rattle.clr_workspace_parts.specs.declared.parts.Part.{Part}
use Rattle.clr_workspace_parts.proofs.BuildLemmas.{sound_deltas, none_wrong, marks_wrong}
use Rattle.clr_tree.proofs.tree.Tree.build.Goals as goal

pub of_map-requires : goal.of_map-requires
of_map-requires c = sound_deltas c.args.live c.in_ok-map.map (map workspace_of c.as_slice.result.now) c.in_ok-map.ensures.made c.in_ok-map.ensures.passed
    c.in_ok-judge_marks.ensures.passed

pub returns-clause-passed : goal.returns-clause-passed
returns-clause-passed c =
    sym (ap (first_fault c.args.live) c.as_slice.ensures.value)
    ∙ none_wrong c.args.live c.in_ok-map.map (map workspace_of c.as_slice.result.now) c.in_ok-map.ensures.made c.in_ok-map.ensures.passed
    c.in_ok-judge_marks.ensures.passed

pub returns-in_err-judge_marks-clause-refused : goal.returns-in_err-judge_marks-clause-refused
returns-in_err-judge_marks-clause-refused c =
    let p = err_from_is_err_and c.from_residual-in_err-judge_marks.result c.from_residual-in_err-judge_marks.ensures.1 in
    rw (p.1, p.2)
    (subst (λ (parts : List Part). IsFirstPartFault (first_fault c.args.live parts) c.in_err-judge_marks.field-0.0) c.as_slice.ensures.value
    (marks_wrong c.args.live c.in_ok-map.map (map workspace_of c.as_slice.result.now) c.in_ok-map.ensures.made c.in_ok-map.ensures.passed
    c.in_err-judge_marks.field-0.0 c.in_err-judge_marks.ensures.refused))
