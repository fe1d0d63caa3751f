use Rattle.std.proofs.Common.{ap, ◌∙◌}
use Rattle.clr_deltas.specs.NamedDeltas.{delta_of}
use Rattle.clr_deltas.specs.Deltas.{wholes}
use Rattle.clr_workspace_parts.proofs.BuildLemmas.{new_delta, part_pushed}
use Rattle.clr_workspace_parts.proofs.builds.push_under.Goals as goal

pub push-requires : goal.push-requires
push-requires c =
    new_delta c.args.live.now c.args.map.now c.args.above.now (delta_of (c.in_ok-name.name, c.in_ok-name.delta)) c.args.part.now c.in_ok-name.ensures
    c.requires.absent

pub returns : goal.returns
returns c =
    ap (wholes c.args.live.now) c.in_ok-push.ensures.ok
    ∙ part_pushed c.args.live.now c.args.map.now c.args.above.now (delta_of (c.in_ok-name.name, c.in_ok-name.delta)) c.args.part.now c.in_ok-name.ensures
    c.args.at c.requires.filled c.requires.found c.requires.above
