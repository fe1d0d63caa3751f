use Rattle.std.proofs.Common.{◌≡◌, ◌∙◌, ap, arith}
use Rattle.clr_deltas.specs.Deltas.{wholes}
use Rattle.clr_workspaces.specs.Workspaces.{depth_of}
use Rattle.clr_workspaces.proofs.DepthLemmas.{depth_step, depth_zero}
use Rattle.clr_contents.proofs.ReadLemmas.{within_wholes}
use Rattle.clr_contents.proofs.reads.depth_at.Goals as goal

pub loop-at-preserved : goal.loop-at-preserved
loop-at-preserved c =
    let ws = wholes c.args.live.now c.args.map.now in
    let up = c.parent_of-at.ensures.earlier in
    let here = c.loop-at.invariant.within in
    let step = depth_step ws c.loop-at.at c.parent_of-at.result c.requires.rooted (within_wholes c.args.live.now c.args.map.now c.loop-at.at here)
    c.parent_of-at.ensures.found up in
    let few = c.loop-at.invariant.few in
    let rest = c.loop-at.invariant.rest in
    record { within = omega (arith, up, here); few = omega (arith, few, up); rest = omega (arith, step, rest) }

pub returns : goal.returns
returns c =
    let ws = wholes c.args.live.now c.args.map.now in
    let first : c.loop-at.at ≡ 0 = omega arith in
    let none = ap (depth_of ws) first ∙ depth_zero ws c.requires.rooted in
    let rest = c.loop-at.invariant.rest in
    omega (arith, none, rest)
