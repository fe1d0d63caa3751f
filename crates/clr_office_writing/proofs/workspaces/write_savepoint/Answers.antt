use Rattle.std.proofs.lemmas.Result.{on_ok_weaker}
use Rattle.clr_office_writing.proofs.ListsWritten.{after}
use Rattle.clr_office_writing.proofs.workspaces.write_savepoint.Goals as goal

pub returns : goal.returns
returns c =
    on_ok_weaker c.end_object.result (λ e.
    after c.args.text.now c.begin_object.new.self _ _ _ c.in_ok-begin_object.ensures.ok (
    after c.begin_object.new.self c.key.new.self _ _ _ c.in_ok-key.ensures.ok (
    after c.key.new.self c.write_differences.new.text _ _ _ c.in_ok-write_differences.ensures (
    after c.write_differences.new.text c.key-2.new.self _ _ _ c.in_ok-key-2.ensures.ok (
    after c.key-2.new.self c.string.new.self _ _ _ c.in_ok-string.ensures.ok e))))) c.end_object.ensures.ok
