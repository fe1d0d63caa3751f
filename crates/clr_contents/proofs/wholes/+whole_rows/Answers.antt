use Rattle.std.proofs.Common.{◌≡◌, ◌∙◌, ap, sym, subst, arith}
use Rattle.std.specs.Prelude.{IfOk}
use Rattle.std.specs.FinMap as finite
use Rattle.clr_rows.specs.Contents.{Content, over}
use Rattle.clr_deltas.specs.Differences.{Differences}
use Rattle.clr_deltas.specs.Deltas.{wholes}
use Rattle.clr_workspaces.specs.Workspaces.{workspace_at}
use Rattle.clr_deltas.proofs.Meaning.{live-wholes}
use Rattle.clr_contents.proofs.ReadLemmas.{current_parts}
use Rattle.clr_contents.proofs.wholes.+whole_rows.Goals as goal

pub returns-then-at-eq0 : goal.returns-then-at-eq0
returns-then-at-eq0 n c =
    let zero : c.args.at ≡ 0 = omega arith in
    let is = ap (λ k. (workspace_at (wholes c.args.live.now c.args.map.now) k).current) zero
    ∙ live-wholes c.args.live.now c.args.map.now (omega (arith, c.requires.within)) in
    subst (λ (m : Content). IfOk c.copy.result (λ sheet. sheet ≡ m)) (sym is) c.copy.ensures

pub returns : goal.returns
returns n c =
    let base = c.in_ok-rows.ensures ∙ ap (λ (d : Differences). finite.entries d) c.base.ensures in
    let current = c.in_ok-rows-2.ensures ∙ ap (λ (d : Differences). finite.entries d) c.current.ensures in
    let first = c.in_ok-put_all.ensures.ok ∙ (λ i. over (c.in_ok-sheet.ensures i) (base i)) in
    c.in_ok-put_all-2.ensures.ok ∙ (λ i. over (first i) (current i))
    ∙ current_parts c.args.live.now c.args.map.now c.args.at (omega arith) c.requires.within c.parent_of-above.result c.parent_of-above.ensures.found
    c.parent_of-above.ensures.earlier
