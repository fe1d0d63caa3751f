use Rattle.clr_rows.specs.Held.{held_of}
use Rattle.clr_audit.specs.Searches.{need_beside}
use Rattle.clr_audit.proofs.Beginnings.{flat_begun}
use Rattle.clr_rows.proofs.BeginningLaws.{on_err}
use Rattle.clr_audit.proofs.searching.Search.add_beside_all.Goals as goal

pub returns-in_err-add_beside-clause-err : goal.returns-in_err-add_beside-clause-err
returns-in_err-add_beside-clause-err c =
    on_err _ (flat_begun (need_beside c.args.self.now c.args.servers.now (held_of c.args.first) c.args.part) c.args.list.now.items c.loop-filed.list.items
    c.add_beside.new.list.items
    c.args.filed_parts.now c.loop-filed.filed-index c.loop-filed.invariant c.in_err-add_beside.ensures.err)
