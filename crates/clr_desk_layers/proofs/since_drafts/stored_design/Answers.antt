use Rattle.std.proofs.Common.{false, refl}
use Rattle.clr_deltas.specs.NamedDeltas.{delta_under}
use Rattle.clr_deltas.specs.declared.workspace_maps.Delta.{Delta as Parts}
use Rattle.clr_desk_layers.proofs.SinceLemmas.{whole_design}
use Rattle.clr_desk_layers.proofs.since_drafts.stored_design.Goals as goal

pub returns-clause-whole : goal.returns-clause-whole
returns-clause-whole c =
    let parts : Parts = record {
      parent = c.in_ok-parent.parent;
      base = c.in_ok-base.base;
      current = c.in_ok-current.current;
      marks = c.new.result;
      kept = false;
    } in
    whole_design c.args.live.now c.args.copied.now c.args.content.now c.args.name.now (delta_under c.in_ok-named.named parts) c.in_ok-named.ensures
    c.in_ok-parent.ensures c.in_ok-base.ensures c.in_ok-current.ensures c.new.ensures.items refl
