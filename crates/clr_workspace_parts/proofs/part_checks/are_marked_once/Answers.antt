use Rattle.std.proofs.Common.{◌≡◌, suc, ◌+◌, true, take, ap, sym, ◌∙◌, subst, arith}
use Rattle.std.specs.List.{list_all}
use Rattle.clr_deltas.specs.Deltas.{wholes}
use Rattle.clr_workspaces.specs.Workspaces.{no_workspace}
use Rattle.clr_deltas.proofs.Meaning.{length-wholes}
use Rattle.clr_workspace_parts.specs.Parts.{bare_marks, is_marked_once}
use Rattle.clr_workspace_parts.proofs.PartLemmas.{all_next, all_fails, take_all}
use Rattle.clr_workspace_parts.proofs.part_checks.are_marked_once.Goals as goal

pub returns-then-not-is_marked_once : goal.returns-then-not-is_marked_once
returns-then-not-is_marked_once c =
    let ws = wholes c.args.live.now c.args.map.now in
    let same = length-wholes c.args.live.now c.args.map.now in
    let count = c.len-at-end.ensures in
    sym (all_fails (is_marked_once c.args.parent.now (bare_marks c.args.marks.now)) ws c.loop-at.at no_workspace (omega (arith, same, count))
    (sym c.is_marked_once.ensures ∙ c.if-not-is_marked_once.true))

pub loop-at-preserved : goal.loop-at-preserved
loop-at-preserved c =
    let ws = wholes c.args.live.now c.args.map.now in
    let test = is_marked_once c.args.parent.now (bare_marks c.args.marks.now) in
    let same = length-wholes c.args.live.now c.args.map.now in
    let count = c.len-at-end.ensures in
    let next : suc c.loop-at.at ≡ c.loop-at.at + 1 = omega arith in
    subst (λ n. list_all test (take n ws) ≡ true) next
    (all_next test ws c.loop-at.at no_workspace c.loop-at.invariant (omega (arith, same, count)) (sym c.is_marked_once.ensures ∙ c.if-not-is_marked_once.false))

pub returns : goal.returns
returns c =
    let ws = wholes c.args.live.now c.args.map.now in
    let test = is_marked_once c.args.parent.now (bare_marks c.args.marks.now) in
    let same = length-wholes c.args.live.now c.args.map.now in
    let count = c.len-at-end.ensures in
    sym (ap (list_all test) (sym (take_all ws c.loop-at.at (omega (arith, same, count)))) ∙ c.loop-at.invariant)
