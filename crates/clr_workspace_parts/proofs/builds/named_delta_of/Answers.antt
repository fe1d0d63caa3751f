use Rattle.std.proofs.Common.{List, refl, ap, ◌∙◌}
use Rattle.clr_deltas.specs.NamedDeltas.{delta_of}
use Rattle.clr_deltas.specs.declared.workspace_maps.Delta.{Delta as Parts}
use Rattle.clr_workspace_parts.specs.Parts.{marks_of}
use Rattle.clr_workspace_parts.specs.declared.parts.MarkPart.{MarkPart}
use Rattle.clr_workspace_parts.proofs.BuildLemmas.{whole_part}
use Rattle.clr_workspace_parts.proofs.builds.named_delta_of.Goals as goal

pub returns : goal.returns
returns c =
    let parts : Parts = record {
      parent = c.in_ok-parent.parent;
      base = c.in_ok-base.base;
      current = c.in_ok-current.current;
      marks =
          c.in_ok-marks.marks;
      kept = c.args.part.now.kept;
    } in
    whole_part c.args.above.now (delta_of (c.into_string.result, parts)) c.args.part.now (c.into_string.ensures ∙ c.in_ok-name.ensures) c.in_ok-parent.ensures
    c.in_ok-base.ensures c.in_ok-current.ensures
    (c.in_ok-marks.ensures ∙ ap (λ (ms : List MarkPart). marks_of ms) c.as_slice.ensures.value) refl
