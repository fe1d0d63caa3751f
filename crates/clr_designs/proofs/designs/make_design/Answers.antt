use Rattle.std.proofs.Common.{ap, ◌∙◌}
use Rattle.std.proofs.lemmas.Result.{IfOk-weaker}
use Rattle.clr_rows.specs.Contents.{Content}
use Rattle.clr_layer_changes.specs.Changes.{edits_between}
use Rattle.clr_designs.proofs.designs.make_design.Goals as goal

pub make_edited_design-requires : goal.make_edited_design-requires
make_edited_design-requires c =
    let content = c.args.content.now in
    (content, c.requires, c.in_ok-edits.ensures.edits ∙ ap (λ (m : Content). edits_between m content) c.live.ensures.value)

pub returns-clause-made : goal.returns-clause-made
returns-clause-made c =
    let content = c.args.content.now in
    let edits = c.in_ok-edits.ensures.edits ∙ ap (λ (m : Content). edits_between m content) c.live.ensures.value in
    IfOk-weaker c.make_edited_design.result _ _ (λ refused made. made content c.requires edits) c.make_edited_design.ensures.made
