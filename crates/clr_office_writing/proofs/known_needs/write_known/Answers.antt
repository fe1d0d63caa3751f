use Rattle.std.proofs.lemmas.Result.{on_ok_weaker}
use Rattle.clr_office_writing.proofs.ListsWritten.{after}
use Rattle.clr_office_writing.proofs.known_needs.write_known.Goals as goal

pub returns-in_ok-key-in-Some : goal.returns-in_ok-key-in-Some
returns-in_ok-key-in-Some c =
    rw c.in-Some.is (on_ok_weaker c.write_needs.result (λ e. after c.args.text.now c.key.new.self _ _ _ c.in_ok-key-in-Some.ensures.ok e) c.write_needs.ensures)
