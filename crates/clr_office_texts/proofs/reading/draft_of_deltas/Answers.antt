use Rattle.std.proofs.Common.{Ok, ◌∷◌, List, subst, sym, ap, ◌∙◌}
use Rattle.clr_workspaces.specs.Workspaces.{Workspace, live_workspace}
use Rattle.clr_workspace_parts.specs.Parts.{spaces_of}
use Rattle.clr_steps.specs.Offices.{office_of}
use Rattle.clr_engine.specs.Fitting.{IsFitting}
use Rattle.clr_readings.specs.Readings.{Fails}
use Rattle.clr_rule_text.specs.Fields.{text_lacks_memory}
use Rattle.clr_office_texts.specs.Drafts.{if_standing}
use Rattle.clr_office_texts.proofs.Standing.{refused, stands}
use Rattle.clr_office_texts.proofs.reading.draft_of_deltas.Goals as goal

pub of_tree-requires : goal.of_tree-requires
of_tree-requires c = subst (λ (ws : List Workspace). IsFitting (office_of c.args.schema c.args.book ws)) (sym c.in-Ok.ensures.made) c.requires

pub returns-in-Ok : goal.returns-in-Ok
returns-in-Ok c =
    let o = office_of c.args.schema c.args.book (live_workspace c.args.live ∷ spaces_of c.args.live c.args.parts.items) in
    stands o c.in-Ok.ensures.passed ∙ ap (λ d. Ok d) (sym (c.of_tree.ensures ∙ ap (office_of c.args.schema c.args.book) c.in-Ok.ensures.made))

pub returns-in-Err : goal.returns-in-Err
returns-in-Err c =
    let o = office_of c.args.schema c.args.book (live_workspace c.args.live ∷ spaces_of c.args.live c.args.parts.items) in
    subst (λ f. Fails text_lacks_memory f (if_standing o)) (sym c.text_fault.ensures) (refused o c.in-Err.refused c.in-Err.ensures.refused)
