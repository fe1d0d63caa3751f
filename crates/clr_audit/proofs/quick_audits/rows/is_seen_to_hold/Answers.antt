use Rattle.std.proofs.Common.{◌∙◌, inl, refl, subst}
use Rattle.std.specs.Map.Iter.{deref_pair}
use Rattle.std.proofs.lemmas.Map.Iter.{rest_all, rest_more}
use Rattle.clr_rows.specs.Contents.{row_at}
use Rattle.clr_rules.specs.Needs.{rows_in}
use Rattle.clr_rules.proofs.BrokenLemmas.{listed_stands}
use Rattle.clr_audit.proofs.MeetingLaws.{AreLeft, all_left, none_left, one_less}
use Rattle.clr_audit.proofs.quick_audits.rows.is_seen_to_hold.Goals as goal

pub loop-cell-init : goal.loop-cell-init
loop-cell-init g c =
    all_left c.args.book.now (row_at c.args.sheet.now) (rows_in c.args.sheet.now) c.into_iter-cell-iterator.result
    (c.into_iter-cell-iterator.ensures.into_iter_gives ∙ c.iter-cell-items.ensures.rest)

pub are_rules_met-requires-clause-stands : goal.are_rules_met-requires-clause-stands
are_rules_met-requires-clause-stands g c =
    let rest = rest_more deref_pair c.loop-cell.cell-iterator c.next.new.self c.next.result (c.in-Some.cell, c.in-Some.row) c.in-Some.is c.next.ensures.steps in
    let left = subst (AreLeft c.args.book.now (row_at c.args.sheet.now) (rows_in c.args.sheet.now)) rest c.loop-cell.invariant in
    listed_stands c.args.sheet.now (c.in-Some.cell.now, c.in-Some.row.now) (left.within (c.in-Some.cell.now, c.in-Some.row.now) (inl refl))

pub loop-cell-preserved : goal.loop-cell-preserved
loop-cell-preserved g c =
    let rest = rest_more deref_pair c.loop-cell.cell-iterator c.next.new.self c.next.result (c.in-Some.cell, c.in-Some.row) c.in-Some.is c.next.ensures.steps in
    let left = subst (AreLeft c.args.book.now (row_at c.args.sheet.now) (rows_in c.args.sheet.now)) rest c.loop-cell.invariant in
    one_less c.args.book.now (row_at c.args.sheet.now) (rows_in c.args.sheet.now) c.next.new.self (c.in-Some.cell.now, c.in-Some.row.now) left
    (c.in_ok-are_rules_met.ensures c.if-not-branch.false)

pub returns : goal.returns
returns g c =
    let ended = rest_all deref_pair c.loop-cell.cell-iterator c.next.new.self c.next.result c.in-None.is c.next.ensures.steps in
    λ _. none_left c.args.book.now c.args.sheet.now c.loop-cell.cell-iterator ended c.loop-cell.invariant
