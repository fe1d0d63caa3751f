use Rattle.std.proofs.Common.{◌<◌, ◌≤◌, length, ◌∙◌, arith}
use Rattle.std.proofs.lemmas.List.{drop_all}
use Rattle.clr_office_texts.proofs.Listed.{next_written}
use Rattle.clr_office_texts.proofs.writing.with_workspaces.Goals as goal

pub loop-position-preserved : goal.loop-position-preserved
loop-position-preserved c =
    let o = c.args.office.now in
    let lt : c.loop-position.position < length o.workspaces = omega (arith, c.loop-position-test.true, c.len-count.ensures.count) in
    next_written o c.loop-position.text _ _ c.loop-position.position lt c.in_ok-text.ensures c.loop-position.invariant

pub returns : goal.returns
returns c =
    let o = c.args.office.now in
    let le : length o.workspaces ≤ c.loop-position.position = omega (arith, c.loop-position-test.false, c.len-count.ensures.count) in
    c.in_ok-end_array.ensures.ok ∙ (rw (drop_all c.loop-position.position o.workspaces le) at c.loop-position.invariant)
