use Rattle.std.proofs.Common.{◌≡◌, ◌++◌, sym, ap, subst, ◌∙◌}
use Rattle.std.specs.Prelude.{IfOk}
use Rattle.std.specs.Option.{option_map}
use Rattle.std.proofs.lemmas.Option.{none-some}
use Rattle.clr_engine.specs.Drafts.{delta_in}
use Rattle.clr_office_writing.specs.Tokens.{tokens_of}
use Rattle.clr_office_writing.specs.WorkspaceData.{delta_data}
use Rattle.clr_office_texts.proofs.Listed.{one_written}
use Rattle.clr_office_texts.proofs.writing.with_workspace_at.Goals as goal

pub returns-in-Some : goal.returns-in-Some
returns-in-Some c =
    let o = c.args.office.now in
    one_written o c.args.text c.args.position c.in-Some.delta c.with_workspace.result (sym c.in-Some.is ∙ c.delta.ensures)
    (subst (λ tables. IfOk c.with_workspace.result (λ longer. longer ≡ c.args.text ++ tokens_of (delta_data tables c.in-Some.delta))) c.schema.ensures.value
    c.with_workspace.ensures)

pub returns-in-None : goal.returns-in-None
returns-in-None c = λ w e. absurd (none-some _ (sym c.in-None.is ∙ c.delta.ensures ∙ ap (option_map (delta_in c.args.office.now)) e))
