use Rattle.std.proofs.Common.{◌∙◌, Some, ap, subst, sym}
use Rattle.std.specs.Prelude.{IfSome}
use Rattle.std.proofs.lemmas.Bool.Decides.{same_from_decides}
use Rattle.clr_segments.proofs.SearchLemmas.{points_found}
use Rattle.clr_rules.specs.Fitting.{IsSoundSegment}
use Rattle.clr_row_versions.specs.Serving.{is_on_part}
use Rattle.clr_row_versions.proofs.serving.is_on_part.Goals as goal

pub returns-in-Some : goal.returns-in-Some
returns-in-Some c =
    let sound : IsSoundSegment (c.in-Some.first, c.in-Some.second) = subst (λ o. IfSome o IsSoundSegment) c.in-Some.is c.requires.part in
    same_from_decides _ _ c.lies_on.ensures (points_found c.args.place c.in-Some.first c.in-Some.second sound.differ)
    ∙ ap (is_on_part (Some c.args.place)) (sym c.in-Some.is)
