use Rattle.std.proofs.Common.{◌++◌, ap, ◌∙◌}
use Rattle.std.proofs.lemmas.Result.{on_ok_weaker}
use Rattle.serde_json.specs.Data.{boolean, string}
use Rattle.clr_office_writing.specs.CellData.{differences_data}
use Rattle.clr_office_writing.specs.Tokens.{tokens_of}
use Rattle.clr_office_writing.specs.WorkspaceData.{marks_data}
use Rattle.clr_office_writing.proofs.ListsWritten.{after}
use Rattle.clr_office_writing.proofs.workspaces.write_workspace.Goals as goal

pub returns : goal.returns
returns c =
    on_ok_weaker c.end_object.result (λ e.
    after c.args.text.now c.begin_object.new.self _ _ _ c.in_ok-begin_object.ensures.ok (
    after c.begin_object.new.self c.key.new.self _ _ _ c.in_ok-key.ensures.ok (
    after c.key.new.self c.write_differences.new.text _ _ _ (c.in_ok-write_differences.ensures
    ∙ ap (λ x. c.key.new.self ++ tokens_of (differences_data c.args.schema.now x)) c.base.ensures) (
    after c.write_differences.new.text c.key-2.new.self _ _ _ c.in_ok-key-2.ensures.ok (
    after c.key-2.new.self c.boolean.new.self _ _ _ (c.in_ok-boolean.ensures.ok ∙ ap (λ x. c.key-2.new.self ++ tokens_of (boolean x)) c.is_kept.ensures) (
    after c.boolean.new.self c.key-3.new.self _ _ _ c.in_ok-key-3.ensures.ok (
    after c.key-3.new.self c.write_marks.new.text _ _ _ (c.in_ok-write_marks.ensures
    ∙ ap (λ x. c.key-3.new.self ++ tokens_of (marks_data c.args.schema.now x)) c.marks.ensures) (
    after c.write_marks.new.text c.key-4.new.self _ _ _ c.in_ok-key-4.ensures.ok (
    after c.key-4.new.self c.string.new.self _ _ _ (c.in_ok-string.ensures.ok ∙ ap (λ x. c.key-4.new.self ++ tokens_of (string x)) c.name.ensures) (
    after c.string.new.self c.key-5.new.self _ _ _ c.in_ok-key-5.ensures.ok (
    after c.key-5.new.self c.string-2.new.self _ _ _ (c.in_ok-string-2.ensures.ok ∙ ap (λ x. c.key-5.new.self ++ tokens_of (string x)) c.parent.ensures) (
    after c.string-2.new.self c.key-6.new.self _ _ _ c.in_ok-key-6.ensures.ok (
    after c.key-6.new.self c.write_differences-2.new.text _ _ _ (c.in_ok-write_differences-2.ensures
    ∙ ap (λ x. c.key-6.new.self ++ tokens_of (differences_data c.args.schema.now x)) c.current.ensures) e))))))))))))) c.end_object.ensures.ok
