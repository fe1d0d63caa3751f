use Rattle.std.proofs.Common.{◌≡◌, ◌++◌, ◌∷◌, [], ◌∙◌, ap, string_bytes, false}
use Rattle.clr_deltas.specs.Deltas.{leaf}
use Rattle.clr_deltas.specs.NamedDeltas.{delta_of}
use Rattle.clr_deltas.specs.declared.workspace_maps.Delta.{Delta as Parts}
use Rattle.clr_deltas.proofs.Answered.{on_ok}
use Rattle.clr_deltas.proofs.leaves.push_leaf.Goals as goal

pub returns-clause-ok : goal.returns-clause-ok
returns-clause-ok c =
    let parts : Parts = record { parent = c.args.parent; base = c.new.result; current = c.new-2.result; marks = c.new-3.result; kept = false } in
    let is : delta_of (c.args.name, parts) ≡ leaf (string_bytes c.args.name) c.args.parent = λ i. record {
      name = string_bytes c.args.name;
      parent =
          c.args.parent;
      base = c.new.ensures i;
      current = c.new-2.ensures i;
      marks = c.new-3.ensures.items i;
      kept = false;
    } in
    on_ok c.push.result _ _ (λ pushed. pushed ∙ ap (λ l. c.args.map.now ++ l ∷ []) is) c.push.ensures.ok
